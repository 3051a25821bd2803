-- A status alone, which is OK exactly if something may be removed.
use Rattle.std.proofs.lemmas.Result.{err_from_is_err_and}
use Rattle.commands.proofs.DecisionLaws.{fails, deregister_checked, deregistered}
use Rattle.commands.proofs.deregister.deregister.Goals as goal

pub returns-in_err-judge_deregister : goal.returns-in_err-judge_deregister
returns-in_err-judge_deregister c =
    let p = err_from_is_err_and c.from_residual.result c.from_residual.ensures.1 in
    λ n k chosen. rw (p.1, p.2) (fails (deregister_checked _ _ _ _ _) c.in_err-judge_deregister.ensures)

pub returns : goal.returns
returns c =
    λ n k chosen. rw c.plain.ensures (deregistered _ _ _ _ _ c.requires.params_read c.in_ok-judge_deregister.ensures)
