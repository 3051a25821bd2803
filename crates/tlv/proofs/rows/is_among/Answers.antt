-- `is_among` goes by how often the row stands there.
use Rattle.tlv.proofs.RowLaws.{among-times}
use Rattle.tlv.proofs.rows.is_among.Goals as goal

pub returns : goal.returns
returns c = among-times _ _ c.times.ensures
