-- The list of names: what a pair holds, what the loop over the pairs keeps, and the whole list.
-- Assumes nothing.
use mathlib.Core.Path.{◌≡◌, refl, sym, ap, ◌∙◌}
use mathlib.Core.Bool.{Bool, true, false, not, ◌&&◌, ◌||◌, and-false}
use mathlib.Core.List.{List, [], ◌∷◌, ◌++◌, append_assoc, append-nil}
use Prim.Native.Nat.{ℕ, zero, suc, ◌+◌, ◌-◌, ◌≤◌, ◌<◌}
use native.Mathlib.Numerals.{add-one}
use native.Mathlib.Omega.{arith}
use lib.ListN.{length, take, drop, set, length-set, take-append-drop}
use lib.Seq.{drop-drop, take-suc-set}
use lib.Dec.{leb, eqb}
use Rattle.std.specs.Prelude.{Option, None}
use Rattle.std.specs.Bool.{then_some}
use borrow.Author.Tests.{leb-true, leb-false, eqb-true, eqb-false, le-leb, lt-leb, eq-eqb, ne_eqb}
use Rattle.model.specs.Lists.{any, select, distinct}
use Rattle.model.specs.Tlv.{rule_of, tag_of, ok, key_handle, sign, pair_tag, response_tag}
use Rattle.model.specs.Layouts.{Layout, end, fields, reads}
use Rattle.model.specs.Commands.{pair_fields, name_pairs, name_list}
use Rattle.model.specs.Reader.{Part, holds, parts_at, field_parts, listed_keys, list_lengths, is_handle}
use Rattle.model.proofs.Basics.{split, and_left, both, select-append, numbers_from}
use Rattle.model.proofs.LayoutLaws.{fits-least, fits-most}
use Rattle.model.proofs.PartLaws.{honest}
use Rattle.model.proofs.ResponseWitness.{pairs_plain}
use Rattle.tlv.specs.Heads.{between}
use Rattle.tlv.proofs.HeadLaws.{IsTlv, head_end, length_part}
use Rattle.tlv.specs.Rows.{rows, row, Within}
use Rattle.tlv.proofs.RowLaws.{rows_more, within_more}
use Rattle.layouts.specs.Places.{nowhere, reads_at, obeys, after_group}
use Rattle.layouts.proofs.PlaceLaws.{past_head_lem, read_end, read_group, then-field, then-last, from_front, in_before, tlv-before}
use Rattle.layouts.proofs.SizeLaws.{Layered, nothing, one, layered, length_front, parts_front, parts_nothing}
use Rattle.response_reader.specs.Met.{part_at, met}
use Rattle.response_reader.specs.Responses.{Opened, handles, handles_from, KeysOf, KeysAre}
use Rattle.response_reader.proofs.MetLaws.{met-end, met-tlv, walked, parts-met}

-- ---- what a pair holds

abbrev pub after_pair : List ℕ → ℕ → ℕ
after_pair s at = after_group pair_tag pair_fields s at

handles-append : (xs ys : List Part) → handles (xs ++ ys) ≡ handles xs ++ handles ys
handles-append xs ys =
    let plain : Part → Bool = λ p. not (holds p.tag) in
    rw (select-append plain xs ys) (select-append (λ p. is_handle p.tag) (select plain xs) (select plain ys))

none_left : {v : List ℕ} → Layered end v → v ≡ []
none_left nothing = refl

handle_part : (at : ℕ) {v : List ℕ} → Layered (fields (key_handle ∷ [])) v
    → (length v ≡ 36) × (parts_at 1 at v ≡ part_at (tag_of key_handle) (at + 4) 32 ∷ [])
handle_part at (one {t = t} p g i r) =
    let n : length t.value ≡ 32 = omega (arith, fits-least key_handle t.value i, fits-most key_handle t.value i) in
    let e : p.after ≡ [] = none_left r in
    (omega (arith, length_front p, ap length e), rw (parts_front 0 at p, g, n, e, parts_nothing 1))

pair_parts : (at : ℕ) {v : List ℕ} → Layered pair_fields v
    → (32 ≤ length v) × (handles (parts_at 1 at v) ≡ part_at (tag_of key_handle) (at + length v - 32) 32 ∷ [])
pair_parts at {v} (one {t = t} p g i r) =
    let q = handle_part (at + 4 + length t.value) r in
    let e : at + length v - 32 ≡ at + 4 + length t.value + 4 = omega (arith, length_front p, q.0) in
    (omega (arith, length_front p, q.0), rw (parts_front 0 at p, g, q.1, e))

-- a TLV that holds a run which a layout reads: its parts are met, then what follows
met-inside : {s : List ℕ} {at tag start to : ℕ} (n : ℕ) (l : Layout) → IsTlv s at tag start to → holds tag ≡ true → honest n l ≡ true
    → reads l (between s start to) ≡ true
    → met s at ≡ part_at tag start (to - start) ∷ (parts_at n start (between s start to) ++ met s to)
unfolding met
met-inside {s} {at} {tag} {start} {to} n l i h k e =
    let v : List ℕ = between s start to in
    let x : start + (to - start) ≡ to = omega (arith, i) in
    let m : length v ≡ to - start = length_part (record { ordered = i.ordered; within = i.within }) in
    let y : start + length v ≡ to = omega (arith, i) in
    let a : v ++ drop to s ≡ drop start s =
    ap (λ (j : ℕ). v ++ drop j s) (sym x) ∙ rw (← drop-drop (to - start) start s) (take-append-drop (to - start) (drop start s)) in
    let w = walked n start (layered l v e) k (drop to s) in
    met-tlv i ∙ rw h (ap (λ (ps : List Part). part_at tag start (to - start) ∷ ps) (rw (a, y) at w))

-- a pair ends with its key handle
pub record IsPair (s : List ℕ) (at to : ℕ) : Type 0 where
  pub long : 32 ≤ to
  pub key : handles_from s at ≡ row (to - 32) s ∷ handles_from s to

pub pair_is : {s : List ℕ} {at to : ℕ} → to ≡ after_pair s at → to ≤ length s → IsPair s at to
unfolding handles_from
pair_is {s} {at} {to} e h =
    let g = tlv-before h pair_tag (reads pair_fields) e in
    let i = g.0 in
    let start : ℕ = at + 4 in
    let v : List ℕ = between s start to in
    let p = pair_parts start (layered pair_fields v g.1) in
    let n : length v ≡ to - start = length_part (record { ordered = i.ordered; within = h }) in
    let x : start + length v - 32 ≡ to - 32 = omega (arith, i) in
    record {
      long = omega (arith, p.0);
      key = rw (met-inside 1 pair_fields i refl refl g.1, handles-append (parts_at 1 start v) (met s to), p.1, x);
    }

-- ---- pairs from a place on

beyond : (l : Layout) (s : List ℕ) (at : ℕ) → length s < at → reads_at l s at ≡ false
unfolding reads_at
beyond l s at h = simp (lt-leb _ _ h)

-- at the end there is none
pairs_end : (s : List ℕ) (at k : ℕ) → at ≡ length s → reads_at (name_pairs k) s at ≡ eqb k 0
pairs_end s at zero e = read_end s at ∙ eq-eqb _ _ e
pairs_end s at (suc k) e =
    let p : after_pair s at ≡ nowhere s = past_head_lem pair_tag (reads pair_fields) s at (head_end s at (omega arith)) in
    read_group pair_tag pair_fields (name_pairs k) s at ∙ rw p (beyond (name_pairs k) s (nowhere s) (omega arith))
    ∙ sym (ne_eqb (suc k) 0 (λ z. omega arith))

-- elsewhere there is one more than from the next place on
module _ (s : List ℕ) (at : ℕ) {to : ℕ} (h : at ≡ length s → ⊥) (e : to ≡ after_pair s at) where
  pairs_next : (k : ℕ) → reads_at (name_pairs k) s at ≡ (leb 1 k && reads_at (name_pairs (k - 1)) s to)
  pairs_next zero = read_end s at ∙ ne_eqb _ _ h
  pairs_next (suc k) =
      let x : suc k - 1 ≡ k = omega arith in
      rw (le-leb 1 (suc k) (omega arith), x, e) (read_group pair_tag pair_fields (name_pairs k) s at)

  pairs_bad : length s < to → (k : ℕ) → reads_at (name_pairs k) s at ≡ false
  pairs_bad l k = pairs_next k ∙ rw (beyond (name_pairs (k - 1)) s to l) (and-false (leb 1 k))

-- ---- the loop over the pairs

-- m is more than n; m is n: by what is left of m after n
more : (n m : ℕ) (b : Bool) → (leb n m && (leb 1 (m - n) && b)) ≡ (leb (n + 1) m && b)
more n m b =
    split (leb (n + 1) m)
    (λ e. let h : n + 1 ≤ m = leb-true _ _ e in rw (e, le-leb n m (omega arith), le-leb 1 (m - n) (omega arith)))
    (λ e. let h : m < n + 1 = leb-false _ _ e in rw (e, lt-leb 1 (m - n) (omega arith)) (and-false (leb n m)))

exactly : (n m : ℕ) → (leb n m && eqb (m - n) 0) ≡ eqb m n
exactly n m =
    split (leb n m)
    (λ e. let h : n ≤ m = leb-true _ _ e in rw e
    (split (eqb m n)
    (λ d. let k : m ≡ n = eqb-true _ _ d in rw d (eq-eqb (m - n) 0 (omega arith)))
    (λ d. let k : m ≡ n → ⊥ = eqb-false _ _ d in rw d (ne_eqb (m - n) 0 (λ z. k (omega arith))))))
    (λ e. let h : m < n = leb-false _ _ e in rw e (sym (ne_eqb m n (λ z. omega arith))))

-- n pairs lie from a place up to another, and nothing else; their key handles are the rows at the first n of some places
pub record Keyed (s : List ℕ) (from : ℕ) (at : List ℕ) (n place : ℕ) : Type 0 where
  pub few : n ≤ 8
  pub sized : length at ≡ 8
  pub number : (m : ℕ) → reads_at (name_pairs m) s from ≡ (leb n m && reads_at (name_pairs (m - n)) s place)
  pub within : Within 0 (take n at) s
  pub keys : handles_from s from ≡ rows 0 (take n at) s ++ handles_from s place

none_within : (s : List ℕ) → Within 0 [] s
none_within s = record { each = λ i h. absurd (omega arith) }

pub keyed_none : (s : List ℕ) (from : ℕ) (at : List ℕ) → length at ≡ 8 → Keyed s from at 0 from
unfolding rows
keyed_none s from at h =
    record {
      few = omega arith;
      sized = h;
      number = λ m. let x : m - 0 ≡ m = omega arith in rw (le-leb 0 m (omega arith), x);
      within = none_within s;
      keys = refl;
    }

module _ {s at : List ℕ} {from n place : ℕ} (i : Keyed s from at n place) where
  -- a pair more
  pub keyed_next : {to : ℕ} → (place ≡ length s → ⊥) → to ≡ after_pair s place → to ≤ length s → n < 8
      → Keyed s from (set at n (to - 32)) (n + 1) to
  keyed_next {to} h e l k =
      let p = pair_is e l in
      let t : take (n + 1) (set at n (to - 32)) ≡ take n at ++ ((to - 32) ∷ []) =
      rw add-one (take-suc-set at n (to - 32) (omega (arith, i.sized))) in
      let y : to - 32 + 0 ≡ to - 32 = omega arith in
      record {
        few = omega arith;
        sized = length-set at n (to - 32) ∙ i.sized;
        number = λ m. let x : m - n - 1 ≡ m - (n + 1) = omega arith in i.number m ∙ rw (pairs_next s place h e (m - n), x) (more n m _);
        within = rw t (within_more 0 (take n at) s (to - 32) i.within (omega (arith, p.long)));
        keys =
            i.keys
            ∙ rw (p.key, t, rows_more 0 (take n at) s (to - 32), y)
            (sym (append_assoc (rows 0 (take n at) s) (row (to - 32) s ∷ []) (handles_from s to)));
      }

  -- all of them
  pub keyed_all : place ≡ length s → KeysOf s from at n
  unfolding handles_from
  keyed_all e =
      record {
        few = i.few;
        number = λ m h. i.number (suc m) ∙ rw (pairs_end s place (suc m - n) e) (exactly n (suc m));
        within = i.within;
        keys = let g : met s place ≡ [] = met-end s place (head_end s place (omega arith)) in i.keys ∙ rw g (append-nil (rows 0 (take n at) s));
      }

  -- something else than pairs
  pub keyed_bad : {to : ℕ} → (place ≡ length s → ⊥) → to ≡ after_pair s place → length s < to → KeysAre s from at None
  keyed_bad h e l m k = i.number (suc m) ∙ rw (pairs_bad s place h e l (suc m - n)) (and-false (leb n (suc m)))

  -- eight, and nothing more
  pub keyed_eight : {r : Option ℕ} → n ≡ 8 → r ≡ then_some (eqb place (length s)) 8 → KeysAre s from at r
  keyed_eight e f =
      split (eqb place (length s))
      (λ b. rw (f, b) (rw e at (keyed_all (eqb-true _ _ b))))
      (λ b. rw (f, b)
      (λ m l. let x : suc m - n ≡ 0 = omega arith in
      i.number (suc m) ∙ rw (x, read_end s place, b) (and-false (leb n (suc m)))))

-- ---- the whole list

-- numbers one after the other from a on
at_least : (a n : ℕ) → (eqb a n || leb (suc a) n) ≡ leb a n
at_least a n =
    split (leb a n)
    (λ e. let h : a ≤ n = leb-true _ _ e in
    split (eqb a n) (λ d. rw (d, e)) (λ d. let k : a ≡ n → ⊥ = eqb-false _ _ d in rw (d, e) (le-leb (suc a) n (omega arith))))
    (λ e. let h : n < a = leb-false _ _ e in rw (e, ne_eqb a n (λ z. omega arith)) (lt-leb (suc a) n (omega arith)))

-- n, which is below the end of the run, is one of them exactly if it is not below its start
any-run : (p : ℕ → Bool) (n a k : ℕ) → n < a + k → ((m : ℕ) → a ≤ m → m < a + k → p m ≡ eqb m n) → any p (numbers_from a k) ≡ leb a n
any-run p n a zero h f = sym (lt-leb a n (omega arith))
any-run p n a (suc k) h f =
    let ih = any-run p n (suc a) k (omega arith) (λ m l u. f m (omega arith) (omega arith)) in
    rw (f a (omega arith) (omega arith), ih) (at_least a n)

-- the pairs start at place 10
module _ (s : List ℕ) (o : Opened (response_tag sign) s) where
  list_reads : (n : ℕ) → reads (name_list n) s ≡ reads_at (name_pairs n) s 10
  list_reads n = sym (from_front (then-last o.inside (then-field o.past (record { given = refl }))))

  -- neither the response nor its status is a key handle
  list_keys : (n : ℕ) → reads (name_list n) s ≡ true → listed_keys s ≡ handles_from s 10
  unfolding handles_from field_parts reads_at
  list_keys n e =
      let h : 10 ≤ length s = leb-true _ _ (and_left (leb 10 (length s)) _ (sym (list_reads n) ∙ e)) in
      let j = (tlv-before h (tag_of ok) (obeys (rule_of ok)) o.past).0 in
      let i = in_before (omega (arith, j)) (response_tag sign) o.inside in
      rw (parts-met (name_list n) s (both (pairs_plain n).0 refl) e, met-tlv i, met-tlv j)

  module _ {at : List ℕ} {n : ℕ} (k : KeysOf s 10 at n) where
    list_is : (m : ℕ) → 2 ≤ m → m < 9 → reads (name_list m) s ≡ eqb m n
    list_is zero l u = absurd (omega arith)
    list_is (suc m) l u = list_reads (suc m) ∙ k.number m (omega arith)

    list_any : any (λ m. reads (name_list m) s) list_lengths ≡ leb 2 n
    list_any = any-run (λ m. reads (name_list m) s) n 2 7 (omega (arith, k.few)) list_is

    -- where `two` says whether there are two names or more
    pub list-distinct : (two : Bool) → leb 2 n ≡ two
        → (any (λ m. reads (name_list m) s) list_lengths && distinct (listed_keys s)) ≡ (two && distinct (rows 0 (take n at) s))
    list-distinct true e =
        let h : 2 ≤ n = leb-true _ _ e in
        let y : reads (name_list n) s ≡ true = list_is n h (omega (arith, k.few)) ∙ eq-eqb n n refl in
        rw (list_any, e, list_keys n y, k.keys)
    list-distinct false e = rw (list_any, e)

  -- no pairs alone
  module _ (k : (m : ℕ) → m < 8 → reads_at (name_pairs (suc m)) s 10 ≡ false) where
    unlisted : (m : ℕ) → 2 ≤ m → m < 9 → reads (name_list m) s ≡ eqb m 0
    unlisted zero l u = absurd (omega arith)
    unlisted (suc m) l u = list_reads (suc m) ∙ k m (omega arith) ∙ sym (ne_eqb (suc m) 0 (λ z. omega arith))

    pub list_none : false ≡ (any (λ n. reads (name_list n) s) list_lengths && distinct (listed_keys s))
    list_none = let e = any-run (λ m. reads (name_list m) s) 0 2 7 (omega arith) unlisted in rw e
