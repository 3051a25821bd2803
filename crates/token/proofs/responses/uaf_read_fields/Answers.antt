-- The reading's numbers and columns: after a refusal nothing has changed.
use Rattle.token.proofs.ResponseLaws.{list_refused, list_gave}
use Rattle.token.proofs.responses.uaf_read_fields.Goals as goal

pub returns-in-Err : goal.returns-in-Err
returns-in-Err c = list_refused _ _ c.read_fields.ensures _ c.in-Err.is c.from.ensures

pub returns-in-Ok : goal.returns-in-Ok
returns-in-Ok c = list_gave _ _ c.read_fields.ensures _ c.in-Ok.is
