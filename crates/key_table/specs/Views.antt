-- A record by value as the model's, and a table by value as its list of records; and both back. Spare bytes do not count: those of a name past its
-- length, and what stands past the last record.
use Rattle.std.specs.Prelude.{◌≡◌, ℕ, ◌≤◌, ◌<◌, List, [], map, length, get_or, drop}
use Rattle.model.specs.Records as model
use Rattle.tlv.specs.Firsts.{firsts}
use Rattle.stored_table.specs.Stored.{record_of}
use Rattle.key_table.specs.declared.records.Record.{Record}
use Rattle.key_table.specs.declared.records.Table.{Table}

-- a name that says that it is longer than its array is that long here too, and so breaks the rule for names
abbrev pub view_record : Record → model.Record
view_record r = record_of r.key_id r.mixed (firsts 0 r.name_len r.name) r.count

-- what reading past the last record would give
abbrev pub no_value : Record
no_value = record { key_id = []; mixed = []; name = []; name_len = 0; count = 0 }

-- what stands past the last record
unfoldable pub spare_record : Record
spare_record = record { key_id = firsts 0 32 []; mixed = firsts 0 32 []; name = firsts 0 128 []; name_len = 0; count = 0 }

-- the record of these fields: its spare bytes are zero
abbrev pub value_of : List ℕ → List ℕ → List ℕ → ℕ → Record
value_of k m v n = record { key_id = k; mixed = m; name = firsts 0 128 v; name_len = length v; count = n }

-- oldest first; a number above 32 is that many records here too, and so breaks the rule for tables
unfoldable pub view_table : Table → model.Table
view_table t = map view_record (firsts no_value t.len t.records)

-- a record of the model by value: its spare bytes are zero
abbrev pub record_value : model.Record → Record
record_value r = value_of r.key_id r.mixed r.name r.count

-- a table of the model by value: spare bytes are zero, in each record and past the last
unfoldable pub table_value : model.Table → Table
table_value t = record { records = firsts spare_record 32 (map record_value t); len = length t }

-- spare bytes are zero in a record
abbrev pub TidyRecord : Record → Type 0
TidyRecord r = r.name ≡ firsts 0 128 (firsts 0 r.name_len r.name)

-- a table of at most 32 records whose spare bytes are zero, in each of them and past the last
pub record Tidy (t : Table) : Type 0 where
  pub few : t.len ≤ 32
  pub names : (i : ℕ) → i < t.len → TidyRecord (get_or t.records i no_value)
  pub rest : drop t.len t.records ≡ drop t.len (firsts spare_record 32 [])
