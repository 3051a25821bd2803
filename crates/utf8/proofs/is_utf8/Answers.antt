-- All ASCII; short; the edges, then all between.
use mathlib.Core.Path.{sym, ◌∙◌}
use native.Mathlib.Omega.{arith}
use Rattle.utf8.proofs.CodeLaws.{plain-utf8}
use Rattle.utf8.proofs.WindowLaws.{edges_wrong, long_is}
use Rattle.utf8.proofs.is_utf8.Goals as goal

pub returns-then-is_all_plain : goal.returns-then-is_all_plain
returns-then-is_all_plain c = sym (plain-utf8 c.args.s.now (sym c.is_all_plain.ensures ∙ c.if-is_all_plain.true))

pub returns-then-not-edges : goal.returns-then-not-edges
returns-then-not-edges c =
    let s = c.args.s.now in
    sym (edges_wrong s (sym c.edges.ensures ∙ c.if-not-edges.true))

pub returns : goal.returns
returns c =
    let s = c.args.s.now in
    c.middle.ensures ∙ long_is s (omega arith) (sym c.edges.ensures ∙ c.if-not-edges.false)
