-- What the firmware gets back is what the call said and left: after a refusal its number, and nothing has changed.
use Rattle.token.proofs.EntryLaws.{entry_refuses, entry_gives}
use Rattle.token.proofs.uaf_command.Goals as goal

pub returns-in-Err : goal.returns-in-Err
returns-in-Err c = entry_refuses _ _ _ _ _ _ _ c.call.ensures c.in-Err.is c.from.ensures

pub returns-in-Ok : goal.returns-in-Ok
returns-in-Ok c = entry_gives _ _ _ _ _ _ _ _ c.call.ensures c.in-Ok.is c.draft_number.ensures
