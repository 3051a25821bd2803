-- The withdrawal's answer in numbers: after a refusal nothing has changed.
use borrow.Author.Rules.{rules}
use Rattle.token.proofs.WrittenLaws.{returns_told}
use Rattle.token.proofs.withdrawals.uaf_withdraw.Goals as goal

pub returns : goal.returns
returns c =
    returns_told _ _ c.withdraw-done.result _ c.withdraw-done.ensures (search rules)
