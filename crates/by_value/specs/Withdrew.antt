-- What a withdrawal by value hands back, in the words of `model`.
use Rattle.std.specs.Prelude.{Result, Ok, Err}
use Rattle.model.specs.Records as model
use Rattle.model.specs.Commands as commands
use Rattle.model.specs.Commands.{refused, gave, on_gave}
use Rattle.fields.specs.Refusals.{number}
use Rattle.fields.specs.declared.refusals.Refusal.{Refusal}
use Rattle.key_table.specs.declared.records.Table.{Table}
use Rattle.by_value.specs.Runs.{table_left}
use Rattle.by_value.specs.declared.withdraw.Withdrew.{Withdrew}

-- one refusal, or that the record was taken back
abbrev pub said : Result (Unit {0}) Refusal → commands.Result (Unit {0})
said (Err r) = refused (number r)
said (Ok u) = gave tt

-- what a withdrawal by value says, and the table
pub record Ended : Type 0 where
  pub says : commands.Result (Unit {0})
  pub table : Table

abbrev pub ended : Withdrew → Ended
ended w = record { says = said w.done; table = w.table }

-- by the model's result, where this table was lent
abbrev pub ends : commands.Result model.Table → Table → Ended
ends r t = record { says = on_gave (λ u. tt) r; table = table_left r t }
