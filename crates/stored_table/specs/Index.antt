-- The index of a stored table, as it is found.
use Rattle.std.specs.Prelude.{◌≡◌, ℕ, ◌≤◌, Bool, ◌&&◌, Option, Some, None, List, [], ◌∷◌, length, take}
use Rattle.std.proofs.Math.Option.{none, some}
use Rattle.model.specs.Lists.{distinct}
use Rattle.model.specs.Tlv.{Tlv}
use Rattle.model.specs.Layouts.{matches}
use Rattle.model.specs.Records.{stored_record, max_own, decode}
use Rattle.tlv.specs.Rows.{rows, each_few}
use Rattle.stored_table.specs.Stored.{key_id_at, mixed_at, table_in, Indexed}

-- a stretch is the stored form of a table of n records that start at the first of these places
pub record IndexOf (s places : List ℕ) (n : ℕ) : Type 0 where
  pub within : n ≤ length places
  pub view : decode s ≡ some (table_in s)
  pub indexed : Indexed s (take n places)

-- a reader gave this number of records and left these places, or gave none where a stretch is the stored form of no table
abbrev pub IndexIs : (s places : List ℕ) → Option ℕ → Type 0
IndexIs s places None = decode s ≡ none
IndexIs s places (Some n) = IndexOf s places n

-- a TLV is a stored record
abbrev pub is_stored : Tlv → Bool
is_stored c = matches stored_record (c ∷ [])

-- of the records at these places at most eight have one mixed token, and no two the same KeyID
abbrev pub few_distinct : List ℕ → List ℕ → Bool
few_distinct s places = each_few max_own (rows mixed_at places s) && distinct (rows key_id_at places s)
