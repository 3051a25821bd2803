-- What the writer says in numbers: after a refusal nothing has changed.
use Rattle.token.proofs.WrittenLaws.{returns_told}
use Rattle.token.proofs.writers.uaf_write_register.Goals as goal

pub returns : goal.returns
returns c =
    returns_told _ _ c.write_register-done.result _ c.write_register-done.ensures c.tell.ensures
