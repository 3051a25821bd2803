-- The row at hand, by the test of it; the last `most` rows need none.
use Rattle.std.proofs.Common.{◌≡◌, refl, sym, ◌∙◌, ◌<◌, false, true, arith, length, drop}
use Rattle.tlv.specs.Rows.{each_few}
use Rattle.tlv.specs.RowsOf.{rows_of}
use Rattle.tlv.proofs.RowLaws.{few_from, few-from, few-end, few-at}
use Rattle.tlv.proofs.rows.Rows.few_by.Goals as goal

pub loop-i-init : goal.loop-i-init
loop-i-init g c = few-from _ _

pub returns-then-is_often : goal.returns-then-is_often
returns-then-is_often g c =
    let r = c.args.self.now in
    let so_far : each_few c.args.most (rows_of r) ≡ few_from c.args.most (drop c.loop-i.i (rows_of r)) = c.loop-i.invariant in
    let here : c.loop-i.i < length r.places.now = omega (arith, c.loop-i-test.true, c.saturating_sub-i-end.ensures) in
    let is_many = c.requires.tells _ _ here c.if-is_often.ensures in
    let stops : each_few c.args.most (rows_of r) ≡ false = so_far ∙ few-at _ _ r.stretch.now _ here c.args.most is_many refl in
    sym stops

pub loop-i-preserved : goal.loop-i-preserved
loop-i-preserved g c =
    let r = c.args.self.now in
    let so_far : each_few c.args.most (rows_of r) ≡ few_from c.args.most (drop c.loop-i.i (rows_of r)) = c.loop-i.invariant in
    let here : c.loop-i.i < length r.places.now = omega (arith, c.loop-i-test.true, c.saturating_sub-i-end.ensures) in
    so_far ∙ few-at _ _ r.stretch.now _ here c.args.most (c.requires.tells _ _ here c.if-is_often.ensures) refl

pub returns : goal.returns
returns g c =
    let r = c.args.self.now in
    let so_far : each_few c.args.most (rows_of r) ≡ few_from c.args.most (drop c.loop-i.i (rows_of r)) = c.loop-i.invariant in
    let few : each_few c.args.most (rows_of r) ≡ true =
    so_far ∙ few-end r.off r.places.now r.stretch.now c.loop-i.i c.args.most (omega (arith, c.loop-i-test.false, c.saturating_sub-i-end.ensures)) in
    sym few
