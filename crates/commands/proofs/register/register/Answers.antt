-- A status alone, or key registration data and a record more.
use Rattle.std.proofs.lemmas.Result.{err_from_is_err_and}
use Rattle.commands.proofs.DecisionLaws.{fails, register_checked, registered}
use Rattle.commands.proofs.register.register.Goals as goal

pub returns-in_err-judge_register : goal.returns-in_err-judge_register
returns-in_err-judge_register c =
    let p = err_from_is_err_and c.from_residual.result c.from_residual.ensures.1 in
    λ chosen. rw (p.1, p.2) (fails (register_checked _ _ _ _ _) c.in_err-judge_register.ensures)

pub returns : goal.returns
returns c =
    λ chosen. rw c.plain.ensures
    (registered _ _ _ _ _ c.requires.params_read c.in_ok-judge_register.ensures c.requires.mixed_len.0 c.requires.mixed_len.1)
