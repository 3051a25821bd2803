-- The stored form, both ways.
-- Assumes nothing.
use mathlib.Core.Path.{◌≡◌, refl, sym, ap, ◌∙◌}
use mathlib.Core.Bool.{Bool, true, cond, ◌&&◌}
use mathlib.Core.List.{List, [], ◌∷◌, map}
use mathlib.Core.Option.{Option, none, some, bind}
use Prim.Native.Nat.{ℕ, zero, suc, ◌*◌, ◌/◌, ◌≤◌, ◌<◌}
use native.Mathlib.Omega.{arith}
use lib.ListN.{length, drop, get_or, replicate, length-append}
use lib.Dec.{lit<, leb}
use borrow.Author.Tests.{leb-true, le-leb}
use Rattle.model.specs.Lists.{all, eq_bytes}
use Rattle.model.specs.Utf8.{follow, utf8_after}
use Rattle.model.specs.Tlv.{Bytes, num, le, Tlv, tlv, bytes, tlvs, fits, key_id, mixed_token, username, counter, pair_tag}
use Rattle.model.specs.Layouts.{fill, write, matches}
use Rattle.model.specs.Records.{Record, Table, max_count, record_ok, own, max_records, table_ok, record_fields, stored_record, encode, max_stored, stored_as, table_from, decode}
use Rattle.model.proofs.Basics.{split, and_left, and_right, both, impossible}
use Rattle.model.proofs.Numbers.{length-le, bytes_le, num-le, le-num, num_bound}
use Rattle.model.proofs.Tlvs.{Sized, Held, bytes-append, tlvs-bytes, bytes-tlvs, bytes_join}
use Rattle.model.proofs.LayoutLaws.{fit_all, AllBytes, fits-most, fits-least, length-write, tlvs-fill, matches-fill, matched, first-bytes, rest-bytes, write_bytes}

-- ---- a record and the TLV that it is stored in

-- the values of a record's fields, the TLV that holds such values, and the record of them
abbrev values : Record → List (List ℕ)
values r = r.key_id ∷ r.mixed ∷ r.name ∷ le 4 r.count ∷ []

abbrev holding : List (List ℕ) → Tlv
holding vs = tlv pair_tag (bytes (fill record_fields vs))

abbrev fourth : List (List ℕ) → List ℕ
fourth vs = get_or (drop 1 (drop 1 (drop 1 vs))) 0 []

abbrev record_in : List (List ℕ) → Record
record_in vs =
    record { key_id = get_or vs 0 []; mixed = get_or (drop 1 vs) 0 []; name = get_or (drop 1 (drop 1 vs)) 0 []; count = num (fourth vs) }

counter-fits : (n : ℕ) → fits counter (le 4 n) ≡ true
unfolding fits
counter-fits n = rw (length-le 4 n)

values_fit : (r : Record) → record_ok r ≡ true → fit_all record_fields (values r) ≡ true
unfolding record_ok fit_all
values_fit r e =
    let a : fits key_id r.key_id ≡ true = search (and_left, and_right) in
    let b : fits mixed_token r.mixed ≡ true = search (and_left, and_right) in
    let c : fits username r.name ≡ true = search (and_left, and_right) in
    both a (both b (both c (both (counter-fits r.count) refl)))

stored-values : (vs : List (List ℕ)) → fit_all record_fields vs ≡ true → stored_as (holding vs) ≡ record_in vs
unfolding stored_as fill
stored-values vs e = rw (tlvs-fill record_fields vs e refl (lit< tt))

stored-record : (r : Record) → record_ok r ≡ true → stored_as (holding (values r)) ≡ r
unfolding record_ok
stored-record r e =
    let k : leb r.count max_count ≡ true = search (and_left, and_right) in
    stored-values (values r) (values_fit r e) ∙ rw (num-le 4 r.count (omega (arith, leb-true)))

counter_back : (v : List ℕ) → Bytes v → fits counter v ≡ true → le 4 (num v) ≡ v
counter_back v b e =
    let l : length v ≡ 4 = omega (arith, fits-least counter v e, fits-most counter v e) in
    rw l at (le-num v b)

-- a record's and a table's fields are bytes
abbrev pub RecordBytes : Record → Type 0
RecordBytes r = Bytes r.key_id × Bytes r.mixed × Bytes r.name

abbrev pub TableBytes : Table → Type 0
TableBytes [] = Unit {0}
TableBytes (r ∷ t) = RecordBytes r × TableBytes t

values_back : (vs : List (List ℕ)) → AllBytes vs → fit_all record_fields vs ≡ true → holding (values (record_in vs)) ≡ holding vs
unfolding fill fit_all
values_back vs b e =
    let k : fits counter (fourth vs) ≡ true = search (and_left, and_right) in
    let c : Bytes (fourth vs) = search (first-bytes, rest-bytes) in
    rw (counter_back (fourth vs) c k)

-- what is read obeys the record rules
record-in : (vs : List (List ℕ)) → AllBytes vs → fit_all record_fields vs ≡ true → record_ok (record_in vs) ≡ true
unfolding record_ok fit_all
record-in vs b e =
    let k : fits key_id (get_or vs 0 []) ≡ true = search and_left in
    let m : fits mixed_token (get_or (drop 1 vs) 0 []) ≡ true = search (and_left, and_right) in
    let n : fits username (get_or (drop 1 (drop 1 vs)) 0 []) ≡ true = search (and_left, and_right) in
    let f : fits counter (fourth vs) ≡ true = search (and_left, and_right) in
    let c : Bytes (fourth vs) = search (first-bytes, rest-bytes) in
    let l : length (fourth vs) ≡ 4 = omega (arith, fits-least counter (fourth vs) f, fits-most counter (fourth vs) f) in
    let h : num (fourth vs) < 4294967296 = rw l at (num_bound (fourth vs) c) in
    both (both (both k m) n) (le-leb (num (fourth vs)) max_count (omega arith))

-- ---- a table and the TLVs that it is stored in

abbrev stored : Table → List Tlv
stored t = map (λ r. holding (values r)) t

bytes-stored : (t : Table) → encode t ≡ bytes (stored t)
unfolding encode write fill
bytes-stored [] = unfold bytes in refl
bytes-stored (r ∷ t) = rw (bytes-stored t) (sym (bytes-append (holding (values r) ∷ []) (stored t)))

abbrev matching : Tlv → Bool
matching x = matches stored_record (x ∷ [])

-- TLVs from which a table is read
record Gives (ts : List Tlv) (t : Table) : Type 0 where
  sized : Sized ts
  match : all matching ts ≡ true
  same : map stored_as ts ≡ t

stored_gives : (t : Table) → all record_ok t ≡ true → Gives (stored t) t
unfolding fill fit_all write
stored_gives [] e = record { sized = tt; match = refl; same = refl }
stored_gives (r ∷ t) e =
    let h : record_ok r ≡ true = and_left (record_ok r) _ e in
    let f = values_fit r h in
    let g = stored_gives t (and_right (record_ok r) _ e) in
    record {
      sized = (lit< tt, omega (arith, length-write record_fields (values r) f), g.sized);
      match = both (matches-fill stored_record (values r) (both f refl) refl (lit< tt)) g.match;
      same = cc (stored-record r h);
    }

-- what the stored form of records that obey their rules gives: the table, if it obeys the rest
pub decode_encoded : (t : Table) → all record_ok t ≡ true → decode (encode t) ≡ cond (table_ok t) (some t) none
unfolding decode
decode_encoded t o =
    let g = stored_gives t o in
    rw (bytes-stored t, tlvs-bytes (stored t) g.sized, g.match, g.same)

-- decode of encode is the table
pub decode-encode : (t : Table) → table_ok t ≡ true → decode (encode t) ≡ some t
decode-encode t e =
    let o : all record_ok t ≡ true = unfold table_ok in search (and_left, and_right) in
    decode_encoded t o ∙ rw e

-- ---- the table of which bytes are the stored form

-- a table of bytes and the TLVs that it is stored in
record Stands (t : Table) (ts : List Tlv) : Type 0 where
  same : stored t ≡ ts
  held : TableBytes t
  rules : all record_ok t ≡ true

stands_one : (vs : List (List ℕ)) (x : Tlv) (t : Table) (ts : List Tlv) → AllBytes vs → fit_all record_fields vs ≡ true → holding vs ≡ x
    → Stands t ts → Stands (stored_as x ∷ t) (x ∷ ts)
stands_one vs x t ts b f p s =
    let q : stored_as x ≡ record_in vs = ap stored_as (sym p) ∙ stored-values vs f in
    rw q
    (record {
      same = cc (values_back vs b f);
      held = (search (first-bytes, rest-bytes), s.held);
      rules = both (record-in vs b f) s.rules;
    })

stands : (ts : List Tlv) → Held ts → all matching ts ≡ true → Stands (map stored_as ts) ts
unfolding fill fit_all
stands [] b e = record { same = refl; held = tt; rules = refl }
stands (x ∷ ts) b e =
    let m = matched stored_record (x ∷ []) (b.0, tt) (and_left (matching x) _ e) in
    stands_one m.values x (map stored_as ts) ts m.held (search (and_left, and_right)) (cc) (stands ts b.1 (and_right (matching x) _ e))

module _ (ts : List Tlv) (b : Held ts) (e : all matching ts ≡ true) where
  -- TLVs that are stored records are the stored form of the table read from them
  pub encode-stored : encode (map stored_as ts) ≡ bytes ts
  encode-stored = bytes-stored (map stored_as ts) ∙ ap bytes (stands ts b e).same

  -- whose records obey their rules
  pub stored_rules : all record_ok (map stored_as ts) ≡ true
  stored_rules = (stands ts b e).rules

-- what decodes: a run of TLVs that match, and a table that obeys the rules
record Decoded (s : List ℕ) (t : Table) : Type 0 where
  run : List Tlv
  read : tlvs s ≡ some run
  match : all matching run ≡ true
  same : map stored_as run ≡ t
  obeys : table_ok t ≡ true

from_tlvs : (s : List ℕ) (t : Table) (o : Option (List Tlv)) → tlvs s ≡ o → bind o table_from ≡ some t → Decoded s t
unfolding bind
from_tlvs s t none p e = impossible cc
from_tlvs s t (some ts) p e =
    split (all matching ts && table_ok (map stored_as ts))
    (λ k. let q : map stored_as ts ≡ t = cc in
    record { run = ts; read = p; match = and_left _ _ k; same = q; obeys = rw (← q) (and_right (all matching ts) _ k) })
    (λ k. impossible cc)

decoded : (s : List ℕ) (t : Table) → decode s ≡ some t → Decoded s t
unfolding decode
decoded s t e = from_tlvs s t (tlvs s) refl e

pub decode-ok : (s : List ℕ) (t : Table) → decode s ≡ some t → table_ok t ≡ true
decode-ok s t e = (decoded s t e).obeys

-- encode of whatever decodes is those very bytes
pub encode-decode : (s : List ℕ) (t : Table) → Bytes s → decode s ≡ some t → encode t ≡ s
encode-decode s t b e =
    let d = decoded s t e in
    let r = bytes-tlvs s d.run b d.read in
    ap encode (sym d.same) ∙ encode-stored d.run r.held d.match ∙ r.written

-- and the table's fields are bytes
pub decode-bytes : (s : List ℕ) (t : Table) → Bytes s → decode s ≡ some t → TableBytes t
decode-bytes s t b e =
    let d = decoded s t e in
    let r = bytes-tlvs s d.run b d.read in
    rw (← d.same) (stands d.run r.held d.match).held

-- a table has one stored form
pub one_form : (s s' : List ℕ) (t : Table) → Bytes s → Bytes s' → decode s ≡ some t → decode s' ≡ some t → s ≡ s'
one_form s s' t b b' e e' = sym (encode-decode s t b e) ∙ encode-decode s' t b' e'

-- ---- the stored form is bytes

pub encode-bytes : (t : Table) → TableBytes t → Bytes (encode t)
unfolding encode
encode-bytes [] h = tt
encode-bytes (r ∷ t) h =
    bytes_join (write stored_record (values r)) (encode t)
    (write_bytes stored_record (values r) (h.0.0, (h.0.1, (h.0.2, (bytes_le 4 r.count, tt)))))
    (encode-bytes t h.1)

-- ---- its length

-- a record takes 216 bytes at most
pub length-records : (t : Table) → all record_ok t ≡ true → length (encode t) ≤ 216 * length t
unfolding encode fit_all
length-records [] e = omega arith
length-records (r ∷ t) e =
    let f = values_fit r (and_left (record_ok r) _ e) in
    rw length-append
    (omega (arith, length-write stored_record (values r) (both f refl), length-records t (and_right (record_ok r) _ e)))

pub length-encode : (t : Table) → table_ok t ≡ true → length (encode t) ≤ max_stored
unfolding table_ok
length-encode t e =
    let n : leb (length t) max_records ≡ true = search (and_left, and_right) in
    let o : all record_ok t ≡ true = search (and_left, and_right) in
    omega (arith, leb-true, length-records t o)

-- records of the longest: n of them, eight to a holder, with names of 128 bytes
abbrev pub longest : ℕ → Table
longest zero = []
longest (suc n) =
    record { key_id = n ∷ replicate 31 0; mixed = n / 8 ∷ replicate 31 0; name = replicate 128 0; count = max_count } ∷ longest n

-- the bound is reached
pub fullest : (table_ok (longest 32) ≡ true) × (length (encode (longest 32)) ≡ max_stored)
unfolding table_ok record_ok own eq_bytes fits follow utf8_after encode write fill bytes le
fullest = (refl, refl)
