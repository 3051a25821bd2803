-- A stretch of another length is no row; else the bytes decide.
use mathlib.Core.Path.{◌≡◌, sym, ap, ◌∙◌}
use native.Mathlib.Omega.{arith}
use lib.ListN.{length, drop, length-drop}
use lib.Seq.{length-take-le, take_all}
use Rattle.model.proofs.Basics.{eq_bytes-not}
use Rattle.tlv.specs.Rows.{row}
use Rattle.tlv.proofs.rows.row_is.Goals as goal

pub returns-then-v-ne32 : goal.returns-then-v-ne32
returns-then-v-ne32 c =
    let a = c.args in
    let n : length (row a.p a.s.now) ≡ 32 = length-take-le 32 (drop a.p a.s.now) (simp length-drop (omega arith)) in
    sym (eq_bytes-not _ _ (λ e. c.if-v-ne32.true (sym (ap length e) ∙ n)))

pub returns : goal.returns
returns c = rw (take_all 32 c.args.v.now (omega arith)) at c.same_row.ensures
