-- Document 01, "Records".
use Rattle.std.specs.Prelude.{ℕ, Bool, cond, ◌&&◌, List, [], ◌∷◌, ◌++◌, map, length, get_or, leb}
use Rattle.std.proofs.Math.Option
use Rattle.std.proofs.Math.Option.{Option, none, some, bind}
use Rattle.model.specs.Lists.{all, select, eq_bytes, distinct}
use Rattle.model.specs.Tlv.{num, le, Tlv, tlvs, pair_tag, fits, key_id, mixed_token, username, counter}
use Rattle.model.specs.Layouts.{Layout, end, group, fields, write, matches}

-- "A record has a KeyID .., a mixed token .., a username .. and a 32-bit SignCounter"; a table is records, "oldest first"
pub record Record : Type 0 where
  pub key_id : List ℕ
  pub mixed : List ℕ
  pub name : List ℕ
  pub count : ℕ

abbrev pub Table : Type 0
Table = List Record

-- the greatest number of 32 bits
abbrev pub max_count : ℕ
max_count = 4294967295

unfoldable pub record_ok : Record → Bool
record_ok r = fits key_id r.key_id && fits mixed_token r.mixed && fits username r.name && leb r.count max_count

-- "A holder's records are those with its mixed token, in table order, with all their fields"
abbrev pub has_mixed : List ℕ → Record → Bool
has_mixed m r = eq_bytes r.mixed m

unfoldable pub own : List ℕ → Table → Table
own m t = select (has_mixed m) t

abbrev pub key_ids : Table → List (List ℕ)
key_ids t = map (λ r. r.key_id) t

-- the record rules: "at most 32 records, .. at most 8 with one mixed token, and no KeyID twice"
abbrev pub max_records : ℕ
max_records = 32

abbrev pub max_own : ℕ
max_own = 8

unfoldable pub table_ok : Table → Bool
table_ok t =
    leb (length t) max_records && all record_ok t && all (λ r. leb (length (own r.mixed t)) max_own) t && distinct (key_ids t)

-- "Stored form ..: per record one USERNAME_AND_KEYHANDLE holding KEYID, KEYHANDLE_ACCESS_TOKEN .., USERNAME, COUNTERS (4 bytes)"
abbrev pub record_fields : Layout
record_fields = fields (key_id ∷ mixed_token ∷ username ∷ counter ∷ [])

abbrev pub stored_record : Layout
stored_record = group pair_tag record_fields end

unfoldable pub encode : Table → List ℕ
encode [] = []
encode (r ∷ t) = write stored_record (r.key_id ∷ r.mixed ∷ r.name ∷ le 4 r.count ∷ []) ++ encode t

-- "6,912 bytes at most"
abbrev pub max_stored : ℕ
max_stored = 6912

-- the record that a stored one's children give
unfoldable pub stored_as : Tlv → Record
stored_as t =
    let vs = map (λ c. c.value) (Option.get_or (tlvs t.value) []) in
    record { key_id = get_or vs 0 []; mixed = get_or vs 1 []; name = get_or vs 2 []; count = num (get_or vs 3 []) }

-- the table of which a stretch is the stored form; none if it is the stored form of no table that obeys the rules
abbrev pub table_from : List Tlv → Option Table
table_from ts =
    let t = map stored_as ts in
    cond (all (λ r. matches stored_record (r ∷ [])) ts && table_ok t) (some t) none

unfoldable pub decode : List ℕ → Option Table
unfolding bind
decode s = bind (tlvs s) table_from
