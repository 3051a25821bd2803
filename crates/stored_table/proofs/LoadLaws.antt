-- A stored table as it is read, record by record.
-- Assumes nothing.
use mathlib.Core.Path.{◌≡◌, refl, sym, ap, ◌∙◌}
use mathlib.Core.Bool.{Bool, true, false, cond, ◌&&◌, and-true, and-false}
use mathlib.Core.List.{List, [], ◌∷◌, ◌++◌, map, append_assoc, append-nil}
use mathlib.Core.Option
use mathlib.Core.Option.{Option, none, some, bind}
use Prim.Native.Nat.{ℕ, zero, suc, ◌+◌, ◌-◌, ◌≤◌, ◌<◌}
use native.Mathlib.Nat.{zero-add}
use native.Mathlib.Numerals.{add-one}
use native.Mathlib.Omega.{arith}
use lib.ListN.{length, get_or, take, drop, set, length-append, length-map, length-set}
use lib.Seq.{take-suc-set}
use lib.Dec.{eqb}
use mir.Syntax.{w8}
use mir.Val.{Fits}
use borrow.Author.Tests.{lt-leb}
use Rattle.std.specs.Bool.{then_some}
use Rattle.model.specs.Lists.{all}
use Rattle.model.specs.Tlv.{Bytes, Tlv, tlv, bytes, tlvs, pair_tag}
use Rattle.model.specs.Layouts.{matches, reads}
use Rattle.model.specs.Records as model
use Rattle.model.specs.Records.{record_ok, max_records, table_ok, record_fields, stored_as, encode, decode}
use Rattle.model.proofs.Basics.{split, both, all_append}
use Rattle.model.proofs.Tlvs.{bytes-append, length-bytes, bytes-tlvs}
use Rattle.model.proofs.StoredForm.{encode-stored, stored_rules}
use Rattle.tlv.specs.Heads.{head_at, between}
use Rattle.tlv.specs.Rows.{Within}
use Rattle.tlv.specs.declared.heads.Head.{Head}
use Rattle.tlv.specs.declared.heads.Head.TheVariants.{Tlv as Found, Bad, End}
use Rattle.tlv.proofs.HeadLaws.{IsTlv, tlv-is, end_is, head_end, run_end, run_bad, run-tlv, length_part}
use Rattle.layouts.specs.Places.{after_group}
use Rattle.layouts.proofs.PlaceLaws.{past_head_lem, tlv-before}
use Rattle.stored_table.specs.Stored.{mixed_at, table_in, starts}
use Rattle.stored_table.specs.Index.{is_stored, few_distinct, IndexIs}
use Rattle.stored_table.proofs.IndexLaws.{Located, located, located_stand, located_keys, located_mixed, stand_within}
use Rattle.stored_table.proofs.RunLaws.{tlv_starts, starts_more, run-starts, few_decides}

-- what a slice of bytes holds
slice_bytes : (s : List ℕ) → ((i : ℕ) → Fits w8 (get_or s i 0)) → Bytes s
slice_bytes [] f = tt
slice_bytes (x ∷ s) f = ((f zero).fits, slice_bytes s (λ i. f (suc i)))

-- ---- all records read

-- a stretch is the stored form of n records that obey their rules and start at the first of these places
pub record Loaded (s places : List ℕ) (n : ℕ) : Type 0 where
  pub few : n ≤ 32
  pub room : length places ≡ 32
  pub table : model.Table
  pub size : length table ≡ n
  pub whole : encode table ≡ s
  pub places-are : take n places ≡ starts 0 table
  pub rules : all record_ok table ≡ true
  pub view : decode s ≡ cond (table_ok table) (some table) none

module _ {s places : List ℕ} {n : ℕ} (l : Loaded s places n) where
  all_located : Located s (take n places) l.table
  all_located = rw l.places-are (located s 0 l.table (omega arith) (sym l.whole) l.rules)

  pub loaded_within : Within mixed_at (take n places) s
  loaded_within = stand_within s (take n places) mixed_at (omega arith) (located_stand s (take n places) l.table all_located)

  table-in : decode s ≡ some l.table → table_in s ≡ l.table
  unfolding table_in
  table-in d = rw d

  index_is : (b : Bool) → decode s ≡ cond b (some l.table) none → table_ok l.table ≡ b → IndexIs s places (then_some b n)
  index_is true d o =
      let i = table-in d in
      record {
        within = rw l.room l.few;
        view = rw i d;
        indexed = record { whole = rw i l.whole; places-are = rw i l.places-are; ok = rw i o };
      }
  index_is false d o = d

  -- what the places and the test of these rows give
  pub loaded_are : (b : Bool) → b ≡ few_distinct s (take n places) → IndexIs s places (then_some b n)
  loaded_are b e =
      let keys = located_keys s (take n places) l.table all_located in
      let mixed = located_mixed s (take n places) l.table all_located in
      let k : length l.table ≤ max_records = omega (arith, l.few, l.size) in
      let o : table_ok l.table ≡ b = few_decides l.table k l.rules ∙ sym (rw (keys, mixed) at e) in
      index_is b (l.view ∙ rw o) o

-- ---- a table read up to a place

-- the place after a stored record
abbrev pub after_record : List ℕ → ℕ → ℕ
after_record s at = after_group pair_tag record_fields s at

-- a run whose first TLVs are these
abbrev ahead : List Tlv → Option (List Tlv) → Option (List Tlv)
ahead ts o = Option.map (λ us. ts ++ us) o

-- one TLV more
ahead_next : (ts : List Tlv) (c : Tlv) (o : Option (List Tlv)) → ahead ts (Option.map (λ us. c ∷ us) o) ≡ ahead (ts ++ (c ∷ [])) o
ahead_next ts c none = refl
ahead_next ts c (some us) = rw (append_assoc ts (c ∷ []) us)

-- no table starts with these TLVs
abbrev NoTable : List Tlv → Type 0
NoTable ts = (us : List Tlv) → (all is_stored (ts ++ us) && table_ok (map stored_as (ts ++ us))) ≡ false

no_table : (s : List ℕ) (ts : List Tlv) (o : Option (List Tlv)) → tlvs s ≡ ahead ts o → NoTable ts → decode s ≡ none
unfolding decode bind
no_table s ts none e f = rw e
no_table s ts (some us) e f = rw (e, f us)

not-all : (ts : List Tlv) (c : Tlv) (us : List Tlv) → is_stored c ≡ false → all is_stored ((ts ++ (c ∷ [])) ++ us) ≡ false
not-all [] c us e = rw e
not-all (t ∷ ts) c us e = rw (not-all ts c us e) (and-false (is_stored t))

too_many : (t : model.Table) → max_records < length t → table_ok t ≡ false
unfolding table_ok
too_many t h = simp (lt-leb (length t) max_records h)

-- whether a TLV is a stored record, by its tag and its value
stored_is : (tag : ℕ) (v : List ℕ) → is_stored (tlv tag v) ≡ (eqb tag pair_tag && reads record_fields v)
unfolding matches reads
stored_is tag v = and-true _

-- the first n places are those of the stored records that stand before a place
pub record Loading (s places : List ℕ) (n place : ℕ) : Type 0 where
  pub few : n ≤ 32
  pub within : place ≤ length s
  pub run : List Tlv
  pub count : length run ≡ n
  pub passed : length (bytes run) ≡ place
  pub room : length places ≡ 32
  pub places-are : take n places ≡ tlv_starts 0 run
  pub match : all is_stored run ≡ true
  pub rest : tlvs s ≡ ahead run (tlvs (drop place s))

ahead_none : (o : Option (List Tlv)) → o ≡ ahead [] o
ahead_none none = refl
ahead_none (some us) = refl

pub loading : (s places : List ℕ) → length places ≡ 32 → Loading s places 0 0
unfolding bytes
loading s places e =
    record {
      few = omega arith;
      within = omega arith;
      run = [];
      count = refl;
      passed = refl;
      room = e;
      places-are = refl;
      match = refl;
      rest = ahead_none (tlvs s);
    }

module _ {s places : List ℕ} {n place : ℕ} (p : Loading s places n place) where
  -- of a slice of bytes
  pub load-end : ((i : ℕ) → Fits w8 (get_or s i 0)) → length s ≤ place → Loaded s places n
  unfolding decode bind
  load-end f h =
      let r : tlvs s ≡ some p.run = p.rest ∙ rw (run_end s place (head_end s place h)) (ap some (append-nil p.run)) in
      let q = bytes-tlvs s p.run (slice_bytes s f) r in
      record {
        few = p.few;
        room = p.room;
        table = map stored_as p.run;
        size = rw length-map p.count;
        whole = encode-stored p.run q.held p.match ∙ q.written;
        places-are = p.places-are ∙ run-starts 0 p.run q.held p.match;
        rules = stored_rules p.run q.held p.match;
        view = rw (r, p.match);
      }

  -- the records up to there, and a TLV
  abbrev more : Tlv → List Tlv
  more c = p.run ++ (c ∷ [])

  rest_more : {tag start to : ℕ} → IsTlv s place tag start to → tlvs s ≡ ahead (more (tlv tag (between s start to))) (tlvs (drop to s))
  rest_more {to = to} i = p.rest ∙ rw (run-tlv i) (ahead_next p.run _ (tlvs (drop to s)))

  -- bytes are left
  module _ (h : place < length s) where
    -- no table starts with what stands there
    none-with : (o : Head) → head_at s place ≡ o
        → ((tag start to : ℕ) → head_at s place ≡ Found tag start to → NoTable (more (tlv tag (between s start to)))) → decode s ≡ none
    unfolding decode bind
    none-with (Found tag start to) e f =
        no_table s (more (tlv tag (between s start to))) (tlvs (drop to s)) (rest_more (tlv-is s place tag start to e)) (f tag start to e)
    none-with Bad e f = let r : tlvs s ≡ none = p.rest ∙ rw (run_bad s place e) in rw r
    none-with End e f = absurd (omega (arith, end_is s place e))

    pub load_full : n ≡ 32 → decode s ≡ none
    load_full e =
        none-with (head_at s place) refl
        (λ tag start to d us. let ts = more (tlv tag (between s start to)) ++ us in
        let k = too_many (map stored_as ts) (simp (length-map, length-append) (omega (arith, p.count))) in
        rw k (and-false (all is_stored ts)))

    module _ {to : ℕ} (e : to ≡ after_record s place) where
      pub load-bad : length s < to → decode s ≡ none
      load-bad k =
          none-with (head_at s place) refl
          (λ tag start stop d us. let v = between s start stop in
          let i = tlv-is s place tag start stop d in
          split (eqb tag pair_tag && reads record_fields v)
          (λ b. let q : to ≡ stop = e ∙ past_head_lem pair_tag (reads record_fields) s place d ∙ rw b in absurd (omega (arith, i)))
          (λ b. rw (not-all p.run (tlv tag v) us (stored_is tag v ∙ b))))

      pub load-more : (n ≡ 32 → ⊥) → to ≤ length s → Loading s (set places n place) (n + 1) to
      load-more k l =
          let g = tlv-before l pair_tag (reads record_fields) e in
          let i = g.0 in
          let v : List ℕ = between s (place + 4) to in
          let c : Tlv = tlv pair_tag v in
          let m : length v ≡ to - (place + 4) = length_part (record { ordered = i.ordered; within = l }) in
          let z : length (bytes []) ≡ 0 = unfold bytes in refl in
          let few : n < 32 = omega (arith, p.few) in
          record {
            few = omega arith;
            within = l;
            run = more c;
            count = rw length-append (omega (arith, p.count));
            passed = rw (bytes-append p.run (c ∷ []), length-append) (omega (arith, p.passed, length-bytes c [], i));
            room = rw length-set p.room;
            places-are = rw (add-one, take-suc-set places n place (rw p.room few), p.places-are, starts_more, p.passed, zero-add);
            match = all_append is_stored p.run (c ∷ []) p.match (both (stored_is pair_tag v ∙ g.1) refl);
            rest = rest_more i;
          }
