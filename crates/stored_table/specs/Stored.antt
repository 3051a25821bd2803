-- A table in its stored form, where it lies: what stands in the record at a place, and where the records start.
use Rattle.std.specs.Prelude.{◌≡◌, ℕ, ◌+◌, ◌-◌, ◌≤◌, ◌<◌, true, List, [], ◌∷◌, length, take, drop, get_or}
use Rattle.std.proofs.Math.Option
use Rattle.model.specs.Tlv.{Field, rule_of, key_id, mixed_token, counter}
use Rattle.model.specs.Records as model
use Rattle.model.specs.Records.{table_ok, encode, decode}
use Rattle.tlv.specs.Numbers.{num_at}
use Rattle.tlv.specs.Rows.{row}

-- the record of these fields
abbrev pub record_of : List ℕ → List ℕ → List ℕ → ℕ → model.Record
record_of k m v n = record { key_id = k; mixed = m; name = v; count = n }

-- what reading past the last record would give
abbrev pub no_record : model.Record
no_record = record_of [] [] [] 0

-- ---- where a stored record's values stand, by its list of children (`record_fields` of `model`)

-- the children that stand before its name, and behind it; all have one length
abbrev pub before_name : List Field
before_name = key_id ∷ mixed_token ∷ []

abbrev pub behind_name : List Field
behind_name = counter ∷ []

-- how many bytes such children take, their headers included
abbrev pub size_of : List Field → ℕ
size_of [] = 0
size_of (f ∷ fs) = 4 + (rule_of f).most + size_of fs

-- from the record's first byte, which is its own header's, to the value of the child that follows these
abbrev pub value_after : List Field → ℕ
value_after fs = 4 + size_of fs + 4

abbrev pub key_id_at : ℕ
key_id_at = value_after []

abbrev pub mixed_at : ℕ
mixed_at = value_after (key_id ∷ [])

abbrev pub name_at : ℕ
name_at = value_after before_name

-- what a record takes besides its name
abbrev pub beside_name : ℕ
beside_name = name_at + size_of behind_name

-- how long the name of the record at a place is, by its header
abbrev pub name_size : List ℕ → ℕ → ℕ
name_size b p = num_at 2 b (p + (name_at - 2))

-- where its counter stands
abbrev pub count_at : List ℕ → ℕ → ℕ
count_at b p = p + (name_at + 4) + name_size b p

-- the record at a place: behind their headers KeyID, mixed token, name and counter
unfoldable pub record_at : List ℕ → ℕ → model.Record
record_at b p =
    record_of (row (p + key_id_at) b) (row (p + mixed_at) b) (take (name_size b p) (drop (p + name_at) b)) (num_at 4 b (count_at b p))

-- the record at a place lies in the stretch
abbrev pub Stands : List ℕ → ℕ → Type 0
Stands b p = p + beside_name + name_size b p ≤ length b

-- the record at each of these places lies in the stretch
pub record AllStand (table places : List ℕ) : Type 0 where
  pub each : (i : ℕ) → i < length places → Stands table (get_or places i 0)

-- ---- where the records start

-- the table of which a stretch is the stored form
unfoldable pub table_in : List ℕ → model.Table
table_in b = Option.get_or (decode b) []

-- where the records of a table start that is stored from a place on
unfoldable pub starts : ℕ → model.Table → List ℕ
starts at [] = []
starts at (r ∷ t) = at ∷ starts (at + beside_name + length r.name) t

-- a stretch is the stored form of a table whose records start at these places
pub record Indexed (table places : List ℕ) : Type 0 where
  pub whole : encode (table_in table) ≡ table
  pub places-are : places ≡ starts 0 (table_in table)
  pub ok : table_ok (table_in table) ≡ true
