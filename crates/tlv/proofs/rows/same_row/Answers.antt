-- Eight bytes more at each call, 32 in all.
use mathlib.Core.Bool.{and-true}
use Rattle.tlv.proofs.RowLaws.{same_more}
use Rattle.tlv.proofs.rows.same_row.Goals as goal

pub returns : goal.returns
returns c =
    let a = c.args in
    let one = rw and-true at c.same_word-one.ensures in
    let two = same_more 8 8 a.a.now a.b.now a.p a.q one c.same_word-two.ensures in
    let three = same_more 16 8 a.a.now a.b.now a.p a.q two c.same_word-three.ensures in
    same_more 24 8 a.a.now a.b.now a.p a.q three c.same_word.ensures
