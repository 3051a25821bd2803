-- There are as many marks as rows. A row whose mark stands behind it less often stands there less often itself.
use Rattle.std.proofs.Common.{◌≡◌, ap, ◌∙◌, arith, rules, length}
use borrow.Author.Tests.{lt-leb}
use lib.ListN.{length-drop}
use Rattle.tlv.proofs.RowLaws.{length_marks, seldom-at, take-rest}
use Rattle.tlv.proofs.rows.Rows.is_often_marked.Goals as goal
use Rattle.tlv.proofs.rows.Rows.is_often_marked.Goals.{Start}

as-many : (c : Start) → length c.args.marks.now ≡ length c.args.self.now.places.now
as-many c =
    let r = c.args.self.now in
    ap length c.requires.marks_value ∙ length_marks r.off r.places.now r.stretch.now

pub slice_bounds-alike_in-count : goal.slice_bounds-alike_in-count
slice_bounds-alike_in-count c = omega (arith, as-many (goal.at.slice_bounds-alike_in-count c).Start)

pub slice_bounds-alike_in-start : goal.slice_bounds-alike_in-start
slice_bounds-alike_in-start c = let h = as-many (goal.at.slice_bounds-alike_in-start c).Start in search rules

pub bounds-marks-i : goal.bounds-marks-i
bounds-marks-i c = omega (arith, as-many (goal.at.bounds-marks-i c).Start)

pub alike_in-requires : goal.alike_in-requires
alike_in-requires c = rw take-rest (simp length-drop (omega (arith, as-many (goal.at.alike_in-requires c).Start)))

pub returns-else-most-alike_in : goal.returns-else-most-alike_in
returns-else-most-alike_in c =
    let r = c.args.self.now in
    let k = rw (take-rest, c.requires.marks_value) at c.alike_in.ensures in
    let few = c.if-most-alike_in.false in
    lt-leb _ _ few ∙ seldom-at r.off r.places.now r.stretch.now c.args.i c.requires.within.0 c.args.most k few
