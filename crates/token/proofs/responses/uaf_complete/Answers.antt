-- The completion's answer in numbers: after a refusal nothing has changed.
use Rattle.token.proofs.WrittenLaws.{returns_told}
use Rattle.token.proofs.responses.uaf_complete.Goals as goal

pub returns : goal.returns
returns c =
    returns_told _ _ c.complete-done.result _ c.complete-done.ensures c.tell.ensures
