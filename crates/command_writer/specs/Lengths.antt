-- How many bytes a field takes in a command, and the refusal by their sum.
use Rattle.std.specs.Prelude.{◌≡◌, ℕ, suc, ◌+◌, ◌≤◌, cond, List, [], ◌∷◌, length, ltb, Result, Ok, Err}
use Rattle.model.specs.Tlv.{Tlv, bytes, max_command, Listed, fields_of}
use Rattle.model.specs.Writer.{Values, tlvs_for, values_ok, Wanted, wanted_kind, wanted_values, command, command_of}
use Rattle.fields.specs.declared.refusals.Refusal.{Refusal}
use Rattle.fields.specs.declared.refusals.Refusal.TheVariants.{ShortOutput, BadField}

-- more than any command has
abbrev pub too_long : ℕ
too_long = suc max_command

-- its TLVs; too many, where its values break a rule
unfoldable pub takes : Listed → Values → ℕ
takes f vs = cond (values_ok f vs) (length (bytes (tlvs_for f vs))) too_long

-- all fields of a list
unfoldable pub takes_all : List Listed → List Values → ℕ
takes_all [] [] = 0
takes_all [] (vs ∷ vss) = too_long
takes_all (f ∷ fs) [] = too_long
takes_all (f ∷ fs) (vs ∷ vss) = takes f vs + takes_all fs vss

-- a sum n of what the fields take, for a command that has so many bytes and these children where it is not too long
pub record Counts (w : Wanted) (n size : ℕ) (ts : List Tlv) : Type 0 where
  pub total : n ≡ 4 + takes_all (fields_of (wanted_kind w)) (wanted_values w)
  pub sizes : n ≤ max_command → n ≡ size
  pub children : n ≤ max_command → command_of (wanted_kind w) (wanted_values w) ≡ command (wanted_kind w) ts

-- by a command's length and the output's: 6, then 1
unfoldable pub check_len : ℕ → ℕ → Result (Unit {0}) Refusal
check_len len room = cond (ltb max_command len) (Err BadField) (cond (ltb room len) (Err ShortOutput) (Ok tt))
