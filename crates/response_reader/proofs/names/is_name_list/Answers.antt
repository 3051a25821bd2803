-- After status OK two to eight pairs and nothing else, no two with the same KeyID.
use mathlib.Core.Path.{sym, ◌∙◌}
use mathlib.Core.Bool.{true, false}
use borrow.Author.Tests.{le-leb, lt-leb}
use Rattle.response_reader.proofs.NameLaws.{list_none, list-distinct}
use Rattle.response_reader.proofs.names.is_name_list.Goals as goal

pub returns-in_default : goal.returns-in_default
returns-in_default c = list_none c.args.s.now c.requires c.in_default.ensures

pub returns-then-n-ge2 : goal.returns-then-n-ge2
returns-then-n-ge2 c =
    c.all_distinct.ensures
    ∙ sym (list-distinct c.args.s.now c.requires c.in-Some.ensures true (le-leb _ _ c.if-n-ge2.true))

pub returns-else-n-ge2 : goal.returns-else-n-ge2
returns-else-n-ge2 c =
    let e = lt-leb _ _ c.if-n-ge2.false in
    e ∙ sym (list-distinct c.args.s.now c.requires c.in-Some.ensures false e)
