-- The refusals by their numbers, and what a function with one output says and leaves, from the model's result.
use Rattle.std.specs.Prelude.{ℕ, List, length, Result, Ok, Err}
use Rattle.model.specs.Commands as model
use Rattle.model.specs.Commands.{refused, gave}
use Rattle.model.specs.Complete.{output_of}
use Rattle.fields.specs.declared.refusals.Refusal.{Refusal}
use Rattle.fields.specs.declared.refusals.Refusal.TheVariants.{ShortOutput, BrokenTable, NoCommand, WrongLent, NotWritten, BadField, NotWithdrawable}

-- "one refusal number"
abbrev pub number : Refusal → ℕ
number ShortOutput = 1
number BrokenTable = 2
number NoCommand = 3
number WrongLent = 4
number NotWritten = 5
number BadField = 6
number NotWithdrawable = 7

-- the refusal that it was, or the length of what it wrote
abbrev pub said : Result ℕ Refusal → model.Result ℕ
said (Err r) = refused (number r)
said (Ok n) = gave n

-- what it says, and the output after it
pub record Ended : Type 0 where
  pub result : model.Result ℕ
  pub output : List ℕ

abbrev pub ended : Result ℕ Refusal → List ℕ → Ended
ended r out = record { result = said r; output = out }

-- the refusal, or the length of what is written
abbrev pub length_of : model.Result (List ℕ) → model.Result ℕ
length_of (refused n) = refused n
length_of (gave s) = gave (length s)

-- by the model's result and the output lent
unfoldable pub ends : model.Result (List ℕ) → List ℕ → Ended
ends r out = record { result = length_of r; output = output_of r out }
