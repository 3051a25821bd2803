-- A withdrawal as it is lent, in the words of `model`.
use Rattle.std.specs.Prelude.{ℕ, List}
use Rattle.std.proofs.Math.Option.{Option}
use Rattle.model.specs.Withdrawals.{Withdrawal}

abbrev pub withdrawal : (mixed key : List ℕ) → Option ℕ → Withdrawal
withdrawal mixed key table_output = record { mixed = mixed; key_id = key; table_output = table_output }
