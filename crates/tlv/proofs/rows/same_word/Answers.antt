-- Eight bytes are the same exactly where their numbers are.
use mathlib.Core.Path.{◌≡◌, sym, ◌∙◌}
use native.Mathlib.Omega.{arith}
use lib.ListN.{take, drop}
use lib.Dec.{eqb}
use borrow.Author.Tests.{eq-eqb, ne_eqb}
use Rattle.model.specs.Lists.{eq_bytes}
use Rattle.tlv.proofs.NumberLaws.{number_same}
use Rattle.tlv.proofs.rows.same_word.Goals as goal
use Rattle.tlv.proofs.rows.same_word.Goals.{After-get64-2}

same : (c : After-get64-2)
    → let a = c.args in
    eqb c.get64.result c.get64-2.result ≡ eq_bytes (take 8 (drop a.p a.a.now)) (take 8 (drop a.q a.b.now))
same c =
    number_same 8 c.shared_slice_known-1.given c.shared_slice_known-2-1.given (omega arith) (omega arith) c.get64.ensures
    c.get64-2.ensures

pub returns-then-get64 : goal.returns-then-get64
returns-then-get64 c = rw (sym (same (goal.at.returns-then-get64 c).After-get64-2) ∙ ne_eqb _ _ c.if-get64.true)

pub returns : goal.returns
returns c = rw (sym (same (goal.at.returns c).After-get64-2) ∙ eq-eqb _ _ c.if-get64.false)
