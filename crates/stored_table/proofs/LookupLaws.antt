-- Which records are chosen: the handles given, the numbers of the records that pass, and the records that have these numbers; and whether a mixed
-- token has a KeyID.
-- Assumes nothing.
use mathlib.Core.Path.{◌≡◌, refl, sym, ap, ◌∙◌}
use mathlib.Core.Bool.{Bool, true, false, ◌||◌}
use mathlib.Core.List.{List, [], ◌∷◌, ◌++◌, map, append_assoc, append-nil}
use Prim.Native.Nat.{ℕ, zero, suc, ◌+◌, ◌≤◌, ◌<◌}
use native.Mathlib.Nat.{add-zero}
use native.Mathlib.Numerals.{add-one}
use native.Mathlib.Omega.{arith}
use lib.ListN.{length, get_or, take, drop, set, length-append, length-map, length-set, drop_of_length-le}
use lib.Seq.{drop-cons, drop-drop, length-take-le, get_or-drop, take-suc-set}
use lib.Dec.{ltb, eqb, eqb-suc-zero}
use Rattle.std.specs.List.{list_any}
use borrow.Author.Tests.{lt-ltb, le-ltb, ltb-true, ltb-false}
use Rattle.model.specs.Lists.{cons_if, select, empty, eq_bytes, among}
use Rattle.model.specs.Records as model
use Rattle.model.specs.Records.{has_mixed, own, key_ids, table_ok}
use Rattle.model.specs.Commands.{chosen}
use Rattle.model.proofs.Basics.{split, eq_bytes_sym, select_both, length-select}
use Rattle.model.proofs.Rules.{tests}
use Rattle.tlv.specs.Rows.{row, rows}
use Rattle.stored_table.specs.Stored.{no_record, record_at, table_in, Indexed}
use Rattle.stored_table.specs.Changes.{stay_first}
use Rattle.stored_table.specs.Chosen.{is_chosen, positions, ChosenAre, ChosenOf, records_at}
use Rattle.stored_table.proofs.IndexLaws.{record-at, length-places}

-- ---- the handles given

any-row : (key s : List ℕ) (handles : List ℕ) → among key (rows 0 handles s) ≡ list_any (λ h. eq_bytes key (row h s)) handles
unfolding rows
any-row key s [] = refl
any-row key s (h ∷ hs) = rw (add-zero, eq_bytes_sym (row h s) key, any-row key s hs)

-- no handle is given, or the row of one is the key
pub given_any : (key s : List ℕ) (handles : List ℕ)
    → (empty (rows 0 handles s) || among key (rows 0 handles s)) ≡ (eqb (length handles) 0 || list_any (λ h. eq_bytes key (row h s)) handles)
unfolding rows
given_any key s [] = refl
given_any key s (h ∷ hs) = rw (eqb-suc-zero (length hs), any-row key s (h ∷ hs))

-- ---- the numbers of the elements that pass a test

module _ {A : Type 0} (p : A → Bool) (z : A) where
  -- of the rest of a list from number i on
  positions-rest : (l : List A) (i : ℕ) (xs : List A) → drop i l ≡ xs → map (λ j. get_or l j z) (positions p i xs) ≡ select p xs
  unfolding positions
  positions-rest l i [] e = refl
  positions-rest l i (x ∷ xs) e =
      let here : get_or l i z ≡ x = sym (get_or-drop i l 0 z ∙ rw add-zero) ∙ ap (λ (k : List A). get_or k 0 z) e in
      let rest : drop (suc i) l ≡ xs = sym (drop-drop 1 i l ∙ rw add-one) ∙ ap (drop 1) e in
      let ih = positions-rest l (suc i) xs rest in
      split (p x) (λ q. rw (q, here, ih)) (λ q. rw q ih)

  -- the elements that have these numbers are those that pass
  positions-select : (xs : List A) → map (λ i. get_or xs i z) (positions p 0 xs) ≡ select p xs
  positions-select xs = positions-rest xs 0 xs refl

-- an element more that is below k
cons_if_below : (b : Bool) (i k : ℕ) (is : List ℕ) → i < k → ((j : ℕ) → j < length is → get_or is j 0 < k)
    → (j : ℕ) → j < length (cons_if b i is) → get_or (cons_if b i is) j 0 < k
cons_if_below false i k is h f j l = f j l
cons_if_below true i k is h f zero l = h
cons_if_below true i k is h f (suc j) l = f j (omega arith)

-- each of them is a number of the list
positions_below : {A : Type 0} (p : A → Bool) (i : ℕ) (xs : List A) (j : ℕ) → j < length (positions p i xs)
    → get_or (positions p i xs) j 0 < i + length xs
unfolding positions
positions_below p i [] j h = absurd (omega arith)
positions_below p i (x ∷ xs) j h =
    cons_if_below (p x) i (i + suc (length xs)) (positions p (suc i) xs) (omega arith)
    (λ k l. omega (arith, positions_below p (suc i) xs k l)) j h

-- ---- the records chosen are those of the definition

module _ (m : List ℕ) (hs : List (List ℕ)) (t : model.Table) where
  pub chosen_is : select (is_chosen m hs) t ≡ chosen hs (own m t)
  unfolding chosen own
  chosen_is = sym (select_both (λ r. empty hs || among r.key_id hs) (has_mixed m) t)

  -- a mixed token has at most eight
  chosen-few : table_ok t ≡ true → length (positions (is_chosen m hs) 0 t) ≤ 8
  unfolding chosen
  chosen-few ok =
      let g : ℕ → model.Record = λ i. get_or t i no_record in
      let is : List ℕ = positions (is_chosen m hs) 0 t in
      let e = ap length (positions-select (is_chosen m hs) no_record t ∙ chosen_is) in
      omega (arith, e, length-map is g, length-select (λ r. empty hs || among r.key_id hs) (own m t), (tests t ok).own-few m)

  module _ {is : List ℕ} (e : is ≡ positions (is_chosen m hs) 0 t) where
    pub chosen-records : records_at t is ≡ chosen hs (own m t)
    chosen-records = ap (map (λ i. get_or t i no_record)) e ∙ positions-select (is_chosen m hs) no_record t ∙ chosen_is

    pub chosen_of : length is ≤ 8 → ChosenOf t is
    chosen_of few = record { few = few; each = rw e (λ i l. omega (arith, positions_below (is_chosen m hs) 0 t i l)) }

    -- of a table that obeys the rules there are no more
    pub chosen_ok : table_ok t ≡ true → ChosenOf t is
    chosen_ok ok = chosen_of (rw e (chosen-few ok))

-- ---- a walk over the records of a stored table

-- the numbers from i on
abbrev positions_from : List ℕ → List (List ℕ) → model.Table → ℕ → List ℕ
positions_from m hs t i = positions (is_chosen m hs) i (drop i t)

-- the first len of some numbers are those of the records chosen before record i
pub record Choosing (m : List ℕ) (hs : List (List ℕ)) (t : model.Table) (records : List ℕ) (len i : ℕ) : Type 0 where
  pub few : len ≤ 8
  pub size : length records ≡ 8
  pub are : positions (is_chosen m hs) 0 t ≡ take len records ++ positions_from m hs t i

pub choosing : (m : List ℕ) (hs : List (List ℕ)) (t : model.Table) (records : List ℕ) → length records ≡ 8 → Choosing m hs t records 0 0
choosing m hs t records e = record { few = omega arith; size = e; are = refl }

module _ (m : List ℕ) (hs : List (List ℕ)) {table places : List ℕ} (x : Indexed table places) {records : List ℕ} {len i : ℕ}
    (c : Choosing m hs (table_in table) records len i) where
  abbrev t : model.Table
  t = table_in table

  abbrev from : ℕ → List ℕ
  from = positions_from m hs t

  -- all of them
  pub chosen-all : length places ≤ i → ChosenAre (positions (is_chosen m hs) 0 (table_in table)) records len
  unfolding positions
  chosen-all h =
      let none : drop i t ≡ [] = drop_of_length-le t {i = i} (omega (arith, length-places x)) in
      record { within = rw c.size c.few; are = sym (c.are ∙ rw none (append-nil (take len records))) }

  -- at record i, where g is what its test gave
  module _ (h : i < length places) (g : Bool) (e : g ≡ is_chosen m hs (record_at table (get_or places i 0))) where
    so_far : from 0 ≡ take len records ++ cons_if g i (from (i + 1))
    unfolding positions
    so_far =
        let r : record_at table (get_or places i 0) ≡ get_or t i no_record = (record-at x i h).is in
        c.are ∙ rw (drop-cons t i no_record (omega (arith, length-places x)), add-one, e, r)

    pub chosen-not : g ≡ false → Choosing m hs (table_in table) records len (i + 1)
    chosen-not k = record { few = c.few; size = c.size; are = so_far ∙ rw k }

    module _ (k : g ≡ true) where
      one_more : from 0 ≡ take len records ++ (i ∷ from (i + 1))
      one_more = so_far ∙ rw k

      -- there is room, because a mixed token has no more than eight
      pub chosen-room : len < 8
      chosen-room =
          let n = length-append (take len records) (i ∷ from (i + 1)) in
          let l = length-take-le len records (omega (arith, c)) in
          omega (arith, ap length one_more, n, l, chosen-few m hs t x.ok)

      pub chosen_more : Choosing m hs (table_in table) (set records len i) (len + 1) (i + 1)
      chosen_more =
          let l : len < length records = omega (arith, chosen-room, c.size) in
          record {
            few = omega (arith, chosen-room);
            size = rw length-set c.size;
            are = one_more ∙ rw (add-one len, take-suc-set records len i l) (sym (append_assoc (take len records) (i ∷ []) _));
          }

-- ---- a mixed token has a KeyID exactly if a record would go in a removal by both

ltb-suc : (a b : ℕ) → ltb (suc a) (suc b) ≡ ltb a b
ltb-suc a b =
    split (ltb a b)
    (λ e. lt-ltb (suc a) (suc b) (omega (arith, ltb-true a b e)) ∙ sym e)
    (λ e. le-ltb (suc a) (suc b) (omega (arith, ltb-false a b e)) ∙ sym e)

own_going : (m k : List ℕ) → empty k ≡ false → (t : model.Table) → ltb (stay_first m k t) (length t) ≡ among k (key_ids (own m t))
unfolding own stay_first
own_going m k h [] = refl
own_going m k h (r ∷ t) =
    let ih = own_going m k h t in
    split (eq_bytes r.mixed m)
    (λ e. split (eq_bytes r.key_id k)
    (λ f. rw (h, e, f) (lt-ltb 0 (suc (length t)) (omega arith)))
    (λ f. rw (h, e, f) (ltb-suc _ (length t) ∙ ih)))
    (λ e. rw e (ltb-suc _ (length t) ∙ ih))

-- where n is the number of the first that would
pub own_first : (m k : List ℕ) (t : model.Table) {n : ℕ} → empty k ≡ false → n ≡ 0 + stay_first m k (drop 0 t)
    → ltb n (length t) ≡ among k (key_ids (own m t))
own_first m k t {n} h e =
    let first : n ≡ stay_first m k t = omega arith in
    rw first (own_going m k h t)
