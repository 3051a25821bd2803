-- What the writer says in numbers: after a refusal nothing has changed.
use Rattle.token.proofs.WrittenLaws.{returns_told}
use Rattle.token.proofs.writers.uaf_write_deregister.Goals as goal

pub returns : goal.returns
returns c =
    returns_told _ _ c.write_deregister-done.result _ c.write_deregister-done.ensures c.tell.ensures
