-- A table in its stored form: a record's bytes, what stands at a record's place, and the rows of KeyIDs and of mixed tokens.
-- Assumes nothing.
use mathlib.Core.Path.{◌≡◌, refl, sym, ap, ◌∙◌}
use mathlib.Core.Bool.{true}
use mathlib.Core.List.{List, [], ◌∷◌, ◌++◌, map, map-map, append_assoc, append-nil}
use Prim.Native.Nat.{ℕ, zero, suc, ◌+◌, ◌-◌, ◌≤◌, ◌<◌}
use native.Mathlib.Nat.{zero-add}
use native.Mathlib.Omega.{arith}
use lib.ListN.{length, get_or, take, drop, length-append, length-drop, length-map}
use lib.Seq.{drop-drop, take_at, drop_at, length-take-le}
use Rattle.model.specs.Lists.{all, eq_bytes}
use Rattle.model.specs.Tlv.{num, le, Tlv, tlv, bytes, header, pair_tag}
use Rattle.model.specs.Layouts.{fill, write}
use Rattle.model.specs.Records as model
use Rattle.model.specs.Records.{record_ok, own, key_ids, encode}
use Rattle.model.specs.Commands.{with_count}
use Rattle.model.proofs.Basics.{split, and_left, and_right}
use Rattle.model.proofs.Numbers.{length-le, num-le}
use Rattle.model.proofs.Rules.{obeys_rules, RecordRules, record_rules, tests}
use Rattle.model.proofs.Tlvs.{bytes-append, bytes_one}
use Rattle.tlv.specs.Numbers.{num_at}
use Rattle.tlv.specs.Rows.{rows, row, Within, times}
use Rattle.stored_table.specs.Stored.{no_record, key_id_at, mixed_at, name_at, beside_name, name_size, record_at, Stands, AllStand, table_in, starts, Indexed}

-- ---- the bytes of a stored record

-- the TLVs in a stored record: those before the counter, and all
abbrev pub fields : model.Record → List Tlv
fields r = tlv 0x2E09 r.key_id ∷ tlv 0x2805 r.mixed ∷ tlv 0x2806 r.name ∷ []

abbrev pub inside : model.Record → List Tlv
inside r = fields r ++ (tlv 0x2E0D (le 4 r.count) ∷ [])

pub encode_one : (r : model.Record) → bytes (tlv pair_tag (bytes (inside r)) ∷ []) ≡ encode (r ∷ [])
unfolding encode write fill
encode_one r = rw append-nil

pub encode-append : (s t : model.Table) → encode (s ++ t) ≡ encode s ++ encode t
unfolding encode
encode-append [] t = refl
encode-append (r ∷ s) t = rw (encode-append s t) (simp append_assoc)

-- a record's bytes up to its counter
unfoldable pub up_to : model.Record → List ℕ
up_to r = header pair_tag (length (bytes (fields r)) + 8) ++ (bytes (fields r) ++ header 0x2E0D 4)

-- whatever the counter is
pub encode-count : (r : model.Record) (n : ℕ) (t : model.Table) → encode (with_count r n ∷ t) ≡ up_to r ++ (le 4 n ++ encode t)
unfolding up_to
encode-count r n t =
    let v : List ℕ = bytes (fields r) ++ (header 0x2E0D 4 ++ le 4 n) in
    let e : bytes (inside (with_count r n)) ≡ v =
    rw (bytes-append (fields r) (tlv 0x2E0D (le 4 n) ∷ []), bytes_one 0x2E0D 4 (le 4 n) (length-le 4 n)) in
    let l : length v ≡ length (bytes (fields r)) + 8 = simp (length-append, length-le) in
    encode-append (with_count r n ∷ []) t ∙ rw (← encode_one (with_count r n), e, bytes_one pair_tag _ v l) (simp append_assoc)

-- ---- its fields, one by one

module _ (r : model.Record) (rest : List ℕ) where
  -- what stands behind the name, the mixed token and the KeyID; each field is behind a header
  abbrev behind_name : List ℕ
  behind_name = header 0x2E0D 4 ++ (le 4 r.count ++ rest)

  abbrev behind_mixed : List ℕ
  behind_mixed = header 0x2806 (length r.name) ++ (r.name ++ behind_name)

  abbrev behind_key : List ℕ
  behind_key = header 0x2805 (length r.mixed) ++ (r.mixed ++ behind_mixed)

-- the headers of the record and of its KeyID
abbrev front : model.Record → List ℕ
front r = header pair_tag (length (bytes (fields r)) + 8) ++ header 0x2E09 (length r.key_id)

bytes_then : (t : Tlv) (ts : List Tlv) (rest : List ℕ)
    → bytes (t ∷ ts) ++ rest ≡ header t.tag (length t.value) ++ (t.value ++ (bytes ts ++ rest))
unfolding bytes
bytes_then t ts rest =
    append_assoc (header t.tag (length t.value)) (t.value ++ bytes ts) rest
    ∙ ap (λ (l : List ℕ). header t.tag (length t.value) ++ l) (append_assoc t.value (bytes ts) rest)

bytes_none : (rest : List ℕ) → bytes [] ++ rest ≡ rest
unfolding bytes
bytes_none rest = refl

fields_then : (r : model.Record) (rest : List ℕ) → bytes (fields r) ++ (header 0x2E0D 4 ++ (le 4 r.count ++ rest))
    ≡ header 0x2E09 (length r.key_id) ++ (r.key_id ++ behind_key r rest)
fields_then r rest = rw (bytes_then, bytes_then, bytes_then, bytes_none)

lay : (r : model.Record) (t : model.Table) → encode (r ∷ t) ≡ front r ++ (r.key_id ++ behind_key r (encode t))
unfolding up_to
lay r t =
    let h : List ℕ = header pair_tag (length (bytes (fields r)) + 8) in
    encode-count r r.count t
    ∙ append_assoc h (bytes (fields r) ++ header 0x2E0D 4) _
    ∙ ap (λ (l : List ℕ). h ++ l) (append_assoc (bytes (fields r)) (header 0x2E0D 4) _ ∙ fields_then r (encode t))
    ∙ sym (append_assoc h (header 0x2E09 (length r.key_id)) _)

-- n bytes passed
past : (p n q : ℕ) (s x rest : List ℕ) → q ≡ p + n → length x ≡ n → drop p s ≡ x ++ rest → drop q s ≡ rest
past p n q s x rest g e d = rw g (sym (drop-drop n p s) ∙ ap (drop n) d ∙ drop_at x rest n e)

-- ---- what stands at its place

-- this record stands at a place
pub record RecordIs (table : List ℕ) (place : ℕ) (r : model.Record) : Type 0 where
  pub is : record_at table place ≡ r
  pub size : name_size table place ≡ length r.name
  pub stands : Stands table place

-- how long a stored record is
pub length-one : (r : model.Record) (t : model.Table) → RecordRules r
    → length (encode (r ∷ t)) ≡ beside_name + length r.name + length (encode t)
unfolding le
length-one r t h = rw (lay r t) (simp length-append (omega (arith, h.key-id, h.mixed-token)))

pub length-up_to : (r : model.Record) → RecordRules r → length (up_to r) ≡ name_at + 4 + length r.name
length-up_to r h =
    let e : length (encode (r ∷ [])) ≡ length (up_to r) + (4 + length (encode [])) =
    ap length (encode-count r r.count []) ∙ simp (length-append, length-le) in
    omega (arith, length-one r [] h)

module _ (table : List ℕ) (place : ℕ) (r : model.Record) (t : model.Table) (d : drop place table ≡ encode (r ∷ t)) (h : RecordRules r) where
  abbrev rest : List ℕ
  rest = encode t

  abbrev n : ℕ
  n = length r.name

  at_key : drop (place + key_id_at) table ≡ r.key_id ++ behind_key r rest
  unfolding le
  at_key = past place key_id_at (place + key_id_at) table (front r) _ refl refl (d ∙ lay r t)

  at_mixed : drop (place + mixed_at) table ≡ r.mixed ++ behind_mixed r rest
  unfolding le
  at_mixed =
      let p : ℕ = place + key_id_at + 32 in
      past p 4 (place + mixed_at) table (header 0x2805 (length r.mixed)) _ (omega arith) refl
      (past (place + key_id_at) 32 p table r.key_id _ refl h.key-id at_key)

  behind-mixed : drop (place + mixed_at + 32) table ≡ behind_mixed r rest
  behind-mixed = past (place + mixed_at) 32 (place + mixed_at + 32) table r.mixed _ refl h.mixed-token at_mixed

  at_name : drop (place + name_at) table ≡ r.name ++ behind_name r rest
  unfolding le
  at_name = past (place + mixed_at + 32) 4 (place + name_at) table (header 0x2806 n) _ (omega arith) refl behind-mixed

  at_count : drop (place + (name_at + 4) + n) table ≡ le 4 r.count ++ rest
  unfolding le
  at_count =
      past (place + name_at + n) 4 (place + (name_at + 4) + n) table (header 0x2E0D 4) _ (omega arith) refl
      (past (place + name_at) n (place + name_at + n) table r.name _ refl refl at_name)

  -- the length in the name's header
  name-size : name_size table place ≡ n
  unfolding num_at le
  name-size =
      let e : drop (place + (name_at - 2)) table ≡ le 2 n ++ (r.name ++ behind_name r rest) =
      past (place + mixed_at + 32) 2 (place + (name_at - 2)) table (le 2 0x2806) _ (omega arith) refl behind-mixed in
      rw e (num-le 2 n (omega (arith, h.name-most)))

  record_is : record_at table place ≡ r
  unfolding record_at num_at le
  record_is =
      let c : num (take 4 (drop (place + (name_at + 4) + n) table)) ≡ r.count = rw at_count (num-le 4 r.count h.counter) in
      rw (name-size, at_key, at_mixed, at_name, c)
      (rw (take_at r.key_id _ 32 h.key-id, take_at r.mixed _ 32 h.mixed-token, take_at r.name _ n refl))

  -- the bytes from its place on
  length-there : place ≤ length table → length table ≡ place + beside_name + n + length rest
  length-there k =
      let e : length table - place ≡ beside_name + n + length rest = sym (length-drop place table) ∙ ap length d ∙ length-one r t h in
      omega arith

  stands-there : place ≤ length table → RecordIs table place r
  stands-there k = record { is = record_is; size = name-size; stands = rw name-size (omega (arith, length-there k)) }

-- how long the name, the KeyID and the mixed token of the record at a place are
module _ (table : List ℕ) (place : ℕ) (h : Stands table place) where
  pub name-length : {v : List ℕ} → v ≡ (record_at table place).name → length v ≡ name_size table place
  unfolding record_at
  name-length e = rw e (length-take-le (name_size table place) (drop (place + name_at) table) (simp length-drop (omega arith)))

  row-length : (off : ℕ) → off ≤ mixed_at → length (row (place + off) table) ≡ 32
  row-length off k = length-take-le 32 (drop (place + off) table) (simp length-drop (omega arith))

  pub key_length : {k : List ℕ} → k ≡ (record_at table place).key_id → length k ≡ 32
  unfolding record_at
  key_length e = rw e (row-length key_id_at (omega arith))

  pub mixed_length : {m : List ℕ} → m ≡ (record_at table place).mixed → length m ≡ 32
  unfolding record_at
  mixed_length e = rw e (row-length mixed_at (omega arith))

-- ---- each record of a stored table

-- at each place stands its record
abbrev pub Located : List ℕ → List ℕ → model.Table → Type 0
Located table [] [] = Unit {0}
Located table [] (r ∷ t) = ⊥
Located table (place ∷ places) [] = ⊥
Located table (place ∷ places) (r ∷ t) = RecordIs table place r × Located table places t

-- a table stored behind other bytes
pub located : (table : List ℕ) (place : ℕ) (t : model.Table) → place ≤ length table → drop place table ≡ encode t → all record_ok t ≡ true
    → Located table (starts place t) t
unfolding starts
located table place [] k d ok = tt
located table place (r ∷ t) k d ok =
    let h : RecordRules r = record_rules r (and_left (record_ok r) _ ok) in
    let n : ℕ = beside_name + length r.name in
    let next : ℕ = place + beside_name + length r.name in
    let l : length (encode (r ∷ [])) ≡ n = length-one r [] h ∙ (unfold encode in omega arith) in
    let e : drop next table ≡ encode t =
    past place n next table (encode (r ∷ [])) (encode t) (omega arith) l (d ∙ encode-append (r ∷ []) t) in (
      stands-there table place r t d h k,
      located table next t (omega (arith, length-there table place r t d h k)) e (and_right (record_ok r) _ ok),
    )

located_at : (table places : List ℕ) (t : model.Table) → Located table places t → (i : ℕ) → i < length places
    → RecordIs table (get_or places i 0) (get_or t i no_record)
located_at table [] t l i h = absurd (omega arith)
located_at table (place ∷ places) [] l i h = absurd l
located_at table (place ∷ places) (r ∷ t) l zero h = l.0
located_at table (place ∷ places) (r ∷ t) l (suc i) h = located_at table places t l.1 i (omega arith)

located_records : (table places : List ℕ) (t : model.Table) → Located table places t → map (record_at table) places ≡ t
located_records table [] [] l = refl
located_records table [] (r ∷ t) l = absurd l
located_records table (place ∷ places) [] l = absurd l
located_records table (place ∷ places) (r ∷ t) l = rw (l.0.is, located_records table places t l.1)

module _ (table places : List ℕ) (t : model.Table) (l : Located table places t) where
  pub located_stand : AllStand table places
  located_stand = record { each = λ i h. (located_at table places t l i h).stands }

  -- the rows of KeyIDs and of mixed tokens
  pub located_keys : rows key_id_at places table ≡ key_ids t
  unfolding rows record_at
  located_keys = sym (map-map (λ (r : model.Record). r.key_id) (record_at table) places) ∙ ap key_ids (located_records table places t l)

  pub located_mixed : rows mixed_at places table ≡ map (λ r. r.mixed) t
  unfolding rows record_at
  located_mixed =
      sym (map-map (λ (r : model.Record). r.mixed) (record_at table) places)
      ∙ ap (map (λ (r : model.Record). r.mixed)) (located_records table places t l)

pub stand_within : (table places : List ℕ) (off : ℕ) → off ≤ mixed_at → AllStand table places → Within off places table
stand_within table places off h s = record { each = λ i l. omega (arith, s.each i l) }

-- a record starts where those before it end
start_at : (place : ℕ) (t : model.Table) → all record_ok t ≡ true → (i : ℕ) → i < length t
    → get_or (starts place t) i 0 ≡ place + length (encode (take i t))
unfolding starts encode
start_at place [] ok i h = absurd (omega arith)
start_at place (r ∷ t) ok zero h = omega arith
start_at place (r ∷ t) ok (suc i) h =
    let rules : RecordRules r = record_rules r (and_left (record_ok r) _ ok) in
    let next = start_at (place + beside_name + length r.name) t (and_right (record_ok r) _ ok) i (omega arith) in
    omega (arith, next, length-one r (take i t) rules)

-- how many records a mixed token has
pub times-own : (m : List ℕ) (t : model.Table) → times m (map (λ r. r.mixed) t) ≡ length (own m t)
unfolding times own
times-own m [] = refl
times-own m (r ∷ t) =
    let ih = times-own m t in
    split (eq_bytes r.mixed m) (λ e. rw e (ap suc ih)) (λ e. rw e ih)

-- ---- a table of which the records' places are known

module _ {table places : List ℕ} (x : Indexed table places) where
  abbrev t : model.Table
  t = table_in table

  all_located : Located table places t
  all_located = rw x.places-are (located table 0 t (omega arith) (sym x.whole) (tests t x.ok).each)

  pub record-at : (i : ℕ) → i < length places → RecordIs table (get_or places i 0) (get_or (table_in table) i no_record)
  record-at = located_at table places t all_located

  pub length-places : length places ≡ length (table_in table)
  length-places = rw (← located_records table places t all_located) (simp length-map)

  -- record i is one of the table, and starts where those before it end
  module _ (i : ℕ) (h : i < length places) where
    pub numbered : i < length (table_in table)
    numbered = omega (arith, length-places)

    pub place_is : get_or places i 0 ≡ length (encode (take i (table_in table)))
    place_is = rw x.places-are (start_at 0 t (tests t x.ok).each i numbered ∙ zero-add _)

  pub few_places : length places ≤ 32
  few_places = omega (arith, length-places, (tests t x.ok).few)

  pub all_stand : AllStand table places
  all_stand = located_stand table places t all_located

  pub keys-are : rows key_id_at places table ≡ key_ids (table_in table)
  keys-are = located_keys table places t all_located

  pub mixed-are : rows mixed_at places table ≡ map (λ r. r.mixed) (table_in table)
  mixed-are = located_mixed table places t all_located

  -- there are as many as the table that contracts see has records
  pub counted : {t : model.Table} → table_in table ≡ t → length places ≡ length t
  counted v = omega (arith, length-places, ap length v)

  pub sized : {t : model.Table} → table_in table ≡ t → length table ≡ length (encode t)
  sized v = rw (← v, x.whole)

  -- its record i
  module _ {t : model.Table} (v : table_in table ≡ t) (i : ℕ) (h : i < length t) where
    pub has_place : i < length places
    has_place = omega (arith, counted v)

    pub stands_at : Stands table (get_or places i 0)
    stands_at = (record-at i has_place).stands

    pub stored_at : record_at table (get_or places i 0) ≡ get_or t i no_record
    stored_at = rw (← v) (record-at i has_place).is

    pub key_sized : {k : List ℕ} → k ≡ (record_at table (get_or places i 0)).key_id → length k ≡ 32
    key_sized = key_length table (get_or places i 0) stands_at

    pub mixed_sized : {m : List ℕ} → m ≡ (record_at table (get_or places i 0)).mixed → length m ≡ 32
    mixed_sized = mixed_length table (get_or places i 0) stands_at

    pub short_at : name_size table (get_or places i 0) ≤ 128
    short_at = omega (arith, (record-at i has_place).size, (obeys_rules (table_in table) x.ok).each i (numbered i has_place))

    pub name_short : {n : List ℕ} → n ≡ (record_at table (get_or places i 0)).name → length n ≤ 128
    name_short e = omega (arith, name-length table (get_or places i 0) stands_at e, short_at)

    pub sized_at : name_size table (get_or places i 0) ≡ length (get_or t i no_record).name
    sized_at = rw (← v) (record-at i has_place).size
