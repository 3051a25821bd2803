-- A table by value and its stored form, both ways.
use Rattle.std.specs.Prelude.{◌≡◌, ℕ, ◌≤◌, true, not, List, [], ◌∷◌, ltb, length, take, Result, Ok, Err}
use Rattle.std.proofs.Math.Option.{Option, none, some}
use Rattle.model.specs.Records as model
use Rattle.model.specs.Records.{max_stored, table_ok, encode, decode}
use Rattle.model.specs.Commands as commands
use Rattle.model.specs.Commands.{check, judge, refused, gave, value, table_of}
use Rattle.fields.specs.declared.refusals.Refusal.{Refusal}
use Rattle.fields.specs.declared.refusals.Refusal.TheVariants.{BrokenTable}
use Rattle.key_table.specs.Views.{table_value}
use Rattle.key_table.specs.declared.records.Table.{Table}

-- the first n bytes of an output are the form in which a call is handed a table: what the call finds there is what the table by value is
pub record FormIs (t : model.Table) (out : List ℕ) (n : ℕ) : Type 0 where
  pub within : n ≤ length out
  pub view : decode (take n out) ≡ table_of (value t)
  pub whole : table_ok t ≡ true → take n out ≡ encode t

-- ---- writing: "1, .. its own output shorter than 6,912; 2, the table .. breaks a rule"

unfoldable pub storing : model.Table → ℕ → commands.Result (List ℕ)
storing t n = judge (check 1 (ltb n max_stored) ∷ check 2 (not (table_ok t)) ∷ []) refused (gave (encode t))

-- ---- reading: refusal 2, or the table of which a stretch is the stored form

unfoldable pub loading : Option model.Table → Result Table Refusal
loading none = Err BrokenTable
loading (some t) = Ok (table_value t)
