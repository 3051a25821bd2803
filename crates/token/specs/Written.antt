-- All that the firmware gets back from an entry with one output: a completion, a withdrawal, or a writer of commands. After a refusal nothing that it
-- lent has changed.
use Rattle.std.specs.Prelude.{ℕ, List, length, Result, Ok, Err}
use Rattle.model.specs.Commands as model
use Rattle.model.specs.Commands.{refused, gave}
use Rattle.model.specs.Complete.{output_of}
use Rattle.fields.specs.Refusals.{number}
use Rattle.fields.specs.declared.refusals.Refusal.{Refusal}

-- the refusal number, or 0; the length and the output that it lent
pub record ReturnedBytes : Type 0 where
  pub code : ℕ
  pub size : ℕ
  pub output : List ℕ

-- the refusal number, or 0, the length and the output, as one
abbrev pub wrote : ℕ → ℕ → List ℕ → ReturnedBytes
wrote c n s = record { code = c; size = n; output = s }

-- what the firmware gets from a function with this result that was lent these
unfoldable pub returned_bytes : model.Result (List ℕ) → ReturnedBytes → ReturnedBytes
returned_bytes (refused n) b = wrote n b.size b.output
returned_bytes (gave s) b = wrote 0 (length s) (output_of (gave s) b.output)

-- the two numbers, by what the function said
abbrev pub code_of : Result ℕ Refusal → ℕ
code_of (Err r) = number r
code_of (Ok n) = 0

abbrev pub length_after : Result ℕ Refusal → ℕ → ℕ
length_after (Err r) len = len
length_after (Ok n) len = n
