-- A status alone, or signed data and the count raised.
use Rattle.std.proofs.lemmas.Result.{err_from_is_err_and}
use Rattle.commands.proofs.SignLaws.{one_fails, one_passes}
use Rattle.commands.proofs.sign.sign_one.Goals as goal

pub returns-in_err-next : goal.returns-in_err-next
returns-in_err-next c =
    let p = err_from_is_err_and c.from_residual.result c.from_residual.ensures.1 in
    rw (p.1, p.2) (one_fails _ _ _ _ c.in_err-next.ensures)

pub returns : goal.returns
returns c = rw c.plain.ensures (one_passes _ _ _ c.in_ok-next.ensures)
