-- The rows at the places from that one on.
use Rattle.tlv.proofs.RowLaws.{rows_from}
use Rattle.tlv.proofs.rows.times_in.Goals as goal

pub returns : goal.returns
returns c =
    let a = c.args in
    rw (rows_from a.off a.places.now a.s.now a.from c.min.result c.min.ensures) at c.times.ensures
