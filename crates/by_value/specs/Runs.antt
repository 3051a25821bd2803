-- What a call by value says and leaves, in the words of `model`.
use Rattle.std.specs.Prelude.{ℕ, Bool, List, length, Result, Ok, Err}
use Rattle.std.proofs.Math.Option.{none}
use Rattle.model.specs.Records as model
use Rattle.model.specs.Commands as commands
use Rattle.model.specs.Commands.{refused, gave, on_gave, Effect, bytes_of, outputs}
use Rattle.fields.specs.Refusals.{number}
use Rattle.fields.specs.declared.refusals.Refusal.{Refusal}
use Rattle.authenticator.specs.Outcomes.{is_draft}
use Rattle.key_table.specs.Views.{table_value}
use Rattle.key_table.specs.declared.records.Table.{Table}
use Rattle.by_value.specs.declared.Answer.{Answer}
use Rattle.by_value.specs.declared.Ran.{Ran}

-- what is said of a call that is not refused: whether it wrote a draft or a response, and its length
pub record Size : Type 0 where
  pub draft : Bool
  pub length : ℕ

abbrev pub said : Result Answer Refusal → commands.Result Size
said (Err r) = refused (number r)
said (Ok a) = gave (record { draft = a.draft; length = a.len })

-- what is said of a call with this result of the model
abbrev pub size_of : commands.Result Effect → commands.Result Size
size_of (refused n) = refused n
size_of (gave e) = gave (record { draft = is_draft e.answer; length = length (bytes_of e.answer) })

-- all that a call by value hands back: what it says, the table, the response output
pub record Ended : Type 0 where
  pub says : commands.Result Size
  pub table : Table
  pub output : List ℕ

abbrev pub ended : Ran → List ℕ → Ended
ended r out = record { says = said r.answered; table = r.table; output = out }

-- "after a refusal" the very value that came; else the table left, its spare bytes zero
abbrev pub table_left : commands.Result model.Table → Table → Table
table_left (refused n) t = t
table_left (gave u) t = table_value u

-- what a call with this result of the model hands back, where this table and this response output were lent
unfoldable pub ends : commands.Result Effect → Table → List ℕ → Ended
ends o t out =
    record {
      says = size_of o;
      table = table_left (on_gave (λ e. e.left) o) t;
      output = (outputs o (record { response = out; table = none })).response;
    }
