-- Document 02, A5: "Taking back a failed registration".
use Rattle.std.specs.Prelude.{ℕ, not, ◌&&◌, List, [], ◌∷◌, eqb}
use Rattle.std.proofs.Math.Option.{Option, get_or}
use Rattle.model.specs.Lists.{any, last, given, eq_bytes, among}
use Rattle.model.specs.Tlv.{fits, key_id, mixed_token}
use Rattle.model.specs.Records.{Table, own, key_ids}
use Rattle.model.specs.Commands.{Check, check, judge, Result, refused, gave, short_table, Given, table_of, remove, apply}

-- "a withdrawal, by mixed token and KeyID"; and the length of a table output, "where a stored table is written"
pub record Withdrawal : Type 0 where
  pub mixed : List ℕ
  pub key_id : List ℕ
  pub table_output : Option ℕ

-- "7: no record has both values, its counter is not 0, or it isn't its holder's newest"; mine: the records with this mixed token, the newest the last
abbrev pub withdrawal_checks : (key : List ℕ) (mine : Table) → List Check
withdrawal_checks k mine =
    check 7 (not (among k (key_ids mine)))
    ∷ check 7 (any (λ r. eq_bytes r.key_id k && not (eqb r.count 0)) mine)
    ∷ check 7 (not (eq_bytes (last [] (key_ids mine)) k))
    ∷ []

-- "refusal 1 looks only at a table output"; 4: a mixed token or a KeyID of a wrong length; 7 comes "after 2 and 4"
unfoldable pub withdraw_refusals : Withdrawal → Given → List Check
withdraw_refusals w g =
    check 1 (short_table w.table_output)
    ∷ check 2 (not (given (table_of g)))
    ∷ check 4 (not (fits mixed_token w.mixed && fits key_id w.key_id))
    ∷ withdrawal_checks w.key_id (own w.mixed (get_or (table_of g) []))

-- the table left: "that record goes, all others keep content and order". "It writes no response"
unfoldable pub withdraw : Withdrawal → Given → Result Table
withdraw w g = judge (withdraw_refusals w g) refused (gave (apply w.mixed (remove w.key_id) (get_or (table_of g) [])))
