-- How often it stands there is what `times` gives of those behind it.
use Rattle.tlv.proofs.RowLaws.{often-at}
use Rattle.tlv.proofs.rows.Rows.is_often.Goals as goal

pub returns : goal.returns
returns c =
    let r = c.args.self.now in
    often-at r.off r.places.now r.stretch.now c.args.i c.requires c.args.most (rw (c.at.ensures, c.behind.ensures) at c.times.ensures)
