-- Whether a record can be taken back.
use Rattle.std.specs.Prelude.{ℕ, Bool, true, false, List}
use Rattle.model.specs.Records as model
use Rattle.model.specs.Commands.{judge}
use Rattle.model.specs.Withdrawals.{withdrawal_checks}

-- "7: no record has both values, its counter is not 0, or it isn't its holder's newest": none of these; mine: the records with this mixed token
unfoldable pub withdrawable : (key : List ℕ) (mine : model.Table) → Bool
withdrawable k mine = judge (withdrawal_checks k mine) (λ n. false) true
