use mathlib.Core.Path.{sym, ◌∙◌}
use borrow.Author.Rules.{rules}
use borrow.Author.Tests.{tests}
use Rattle.std.proofs.lemmas.Iterator.{YieldsList-from_slice}
use Rattle.std.proofs.lemmas.Iterator.Adapters.{serves_from_places}
use Rattle.std.proofs.lemmas.Iterator.Search.{any_from_yields_List}
use Rattle.std.proofs.lemmas.List.{get_or_read}
use Rattle.model.specs.Lists.{eq_bytes}
use Rattle.tlv.specs.Rows.{row}
use Rattle.stored_table.proofs.LookupLaws.{given_any}
use Rattle.stored_table.proofs.lookups.is_given.Goals as goal

pub any-requires-clause-callable : goal.any-requires-clause-callable
any-requires-clause-callable c =
    let hs = c.args.handles.now in
    serves_from_places (YieldsList-from_slice hs cc) (λ x q h. search rules)
    (λ x k h e. let here = get_or_read hs k x.now h e 0 in let inside = c.requires.within.each k h in search rules)

pub returns-then-is_empty : goal.returns-then-is_empty
returns-then-is_empty c =
    let a = c.args in
    sym (given_any (row a.place a.table.now) a.s.now a.handles.now ∙ rw (← c.is_empty.ensures, c.if-is_empty.true))

pub returns-else-is_empty : goal.returns-else-is_empty
returns-else-is_empty c =
    let a = c.args in
    let key = row a.place a.table.now in
    let found =
    any_from_yields_List (λ h. eq_bytes key (row h a.s.now)) _ _ c.any.result c.any.ensures.ran (YieldsList-from_slice a.handles.now cc)
    (λ x b q k. search (rules, tests)) in
    found ∙ sym (given_any key a.s.now a.handles.now ∙ rw (← c.is_empty.ensures, c.if-is_empty.false))
