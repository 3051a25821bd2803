-- The rows at the places behind its own.
use Rattle.tlv.proofs.RowLaws.{rows_behind}
use Rattle.tlv.proofs.rows.Rows.behind.Goals as goal

pub returns : goal.returns
returns c = rows_behind _ _ _ _
