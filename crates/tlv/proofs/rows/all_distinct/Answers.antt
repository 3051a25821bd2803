-- No two rows are the same where each stands there at most once.
use Rattle.std.proofs.Common.{◌∙◌}
use borrow.Author.Tests.{le-leb}
use Rattle.tlv.proofs.RowLaws.{few-all, few-distinct}
use Rattle.tlv.proofs.rows.all_distinct.Goals as goal

pub returns-then-places-le1 : goal.returns-then-places-le1
returns-then-places-le1 c =
    let a = c.args in
    let fewer = c.if-places-le1.true in
    le-leb _ _ fewer ∙ few-all a.off a.places.now a.s.now 1 fewer ∙ few-distinct _

pub returns-else-places-le1 : goal.returns-else-places-le1
returns-else-places-le1 c = c.few_among.ensures ∙ few-distinct _
