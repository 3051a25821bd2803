-- The mark at hand, behind those of the rows before it.
use Rattle.std.proofs.Common.{◌≡◌, refl, ◌∙◌, arith, length}
use lib.ListN.{length-set}
use lib.Seq.{take_all}
use Rattle.tlv.proofs.RowLaws.{length_marks, marks-more}
use Rattle.tlv.proofs.rows.Rows.marks.Goals as goal

pub loop-i-init : goal.loop-i-init
loop-i-init c = (refl, refl)

pub loop-i-preserved : goal.loop-i-preserved
loop-i-preserved c =
    let r = c.args.self.now in
    let long = c.loop-i.invariant.0 in (
      length-set c.loop-i.marks _ _ ∙ long,
      marks-more r.off r.places.now r.stretch.now _ c.loop-i-test.true c.loop-i.marks (omega arith) c.mark_of.ensures c.loop-i.invariant.1,
    )

pub returns : goal.returns
returns c =
    let r = c.args.self.now in
    let n = length r.places.now in
    let end : c.loop-i.i ≡ n = omega (arith, c.loop-i.auto.i-end, c.loop-i-test.false) in
    let all = length_marks r.off r.places.now r.stretch.now in
    rw end at c.loop-i.invariant.1 ∙ take_all n _ (omega (arith, all))
