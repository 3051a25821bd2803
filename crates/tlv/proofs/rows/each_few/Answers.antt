-- No row can stand there more often than there are rows.
use Rattle.std.proofs.Common.{◌∙◌}
use borrow.Author.Tests.{le-leb}
use Rattle.tlv.proofs.RowLaws.{few-all}
use Rattle.tlv.proofs.rows.each_few.Goals as goal

pub returns-then-places-most : goal.returns-then-places-most
returns-then-places-most c =
    let a = c.args in
    let fewer = c.if-places-most.true in
    le-leb _ _ fewer ∙ few-all a.off a.places.now a.s.now a.most fewer
