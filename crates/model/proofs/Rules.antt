-- The record rules as the paper says them: table_ok tests for these, both ways.
-- Assumes nothing.
use mathlib.Core.Path.{◌≡◌, refl, sym, ap}
use mathlib.Core.Bool.{Bool, true, not}
use mathlib.Core.List.{List, [], ◌∷◌}
use Prim.Native.Nat.{ℕ, zero, suc, ◌≤◌, ◌<◌}
use native.Mathlib.Omega.{arith}
use lib.ListN.{length, get_or, length-map, get_or-map}
use lib.Dec.{leb}
use borrow.Author.Tests.{leb-true, le-leb, not-true}
use Rattle.model.specs.Lists.{all, select, eq_bytes, among, distinct}
use Rattle.model.specs.Utf8.{utf8}
use Rattle.model.specs.Tlv.{fits, key_id, mixed_token, username}
use Rattle.model.specs.Records.{Record, Table, record_ok, has_mixed, own, key_ids, max_count, max_records, max_own, table_ok}
use Rattle.model.proofs.Basics.{split, clash, and_left, and_right, both, eq_bytes-eq, eq_bytes-same, all-select}
use Rattle.model.proofs.LayoutLaws.{fits-least, fits-most, fits-allowed, size_fits}

-- "a KeyID of 32 bytes, a mixed token of 32 bytes, a username of 1 to 128 bytes and a 32-bit SignCounter"; A1: "a username must now be well-formed
-- UTF-8"
pub record RecordRules (r : Record) : Type 0 where
  pub key-id : length r.key_id ≡ 32
  pub mixed-token : length r.mixed ≡ 32
  pub name-least : 1 ≤ length r.name
  pub name-most : length r.name ≤ 128
  pub name-utf8 : utf8 r.name ≡ true
  pub counter : r.count < 4294967296

-- what a reading past the end gives
abbrev pub no_record : Record
no_record = record { key_id = []; mixed = []; name = []; count = 0 }

-- "at most 32 records, .. at most 8 with one mixed token, and no KeyID twice"
pub record Rules (t : Table) : Type 0 where
  pub few : length t ≤ 32
  pub each : (i : ℕ) → i < length t → RecordRules (get_or t i no_record)
  pub own-few : (m : List ℕ) → length (own m t) ≤ 8
  pub once : (i j : ℕ) → i < length t → j < length t → (get_or t i no_record).key_id ≡ (get_or t j no_record).key_id → i ≡ j

-- ---- the four tests of a table, the third for every mixed token

pub record Tests (t : Table) : Type 0 where
  pub few : length t ≤ max_records
  pub each : all record_ok t ≡ true
  pub own-few : (m : List ℕ) → length (own m t) ≤ max_own
  pub once : distinct (key_ids t) ≡ true

module _ {A : Type 0} where
  all_of : {p : A → Bool} → ((x : A) → p x ≡ true) → (xs : List A) → all p xs ≡ true
  all_of f [] = refl
  all_of f (x ∷ xs) = both (f x) (all_of f xs)

  -- what is selected passes the test
  select-true : (p : A → Bool) (xs : List A) → all p (select p xs) ≡ true
  select-true p [] = refl
  select-true p (x ∷ xs) = split (p x) (λ e. rw e (both e (select-true p xs))) (λ e. rw e (select-true p xs))

  all-at : (p : A → Bool) (d : A) (xs : List A) → all p xs ≡ true → (i : ℕ) → i < length xs → p (get_or xs i d) ≡ true
  all-at p d [] e i h = absurd (omega arith)
  all-at p d (x ∷ xs) e zero h = and_left (p x) _ e
  all-at p d (x ∷ xs) e (suc i) h = all-at p d xs (and_right (p x) _ e) i (omega arith)

  all_by : (p : A → Bool) (d : A) (xs : List A) → ((i : ℕ) → i < length xs → p (get_or xs i d) ≡ true) → all p xs ≡ true
  all_by p d [] f = refl
  all_by p d (x ∷ xs) f = both (f zero (omega arith)) (all_by p d xs (λ i h. f (suc i) (omega arith)))

-- a mixed token that no record has selects none, and one that a record has is tested there
pub tests : (t : Table) → table_ok t ≡ true → Tests t
unfolding table_ok own
tests t e =
    let f : leb (length t) max_records ≡ true = search (and_left, and_right) in
    let a : all record_ok t ≡ true = search (and_left, and_right) in
    let o : all (λ r. leb (length (own r.mixed t)) max_own) t ≡ true = search (and_left, and_right) in
    let d : distinct (key_ids t) ≡ true = search (and_left, and_right) in
    record { few = leb-true _ _ f; each = a; own-few = λ m. own-few m o; once = d }
  where
    few-like : Record → Bool
    few-like r = leb (length (own r.mixed t)) max_own

    own-few : (m : List ℕ) → all few-like t ≡ true → length (own m t) ≤ max_own
    own-few m o = go (own m t) refl (select-true (has_mixed m) t) (all-select few-like (has_mixed m) t o)
      where
        go : (rs : Table) → own m t ≡ rs → all (has_mixed m) rs ≡ true → all few-like rs ≡ true → length (own m t) ≤ max_own
        go [] p h o = rw p (omega arith)
        go (r ∷ rs) p h o =
            rw (← eq_bytes-eq r.mixed m (and_left (has_mixed m r) _ h)) (leb-true _ _ (and_left (few-like r) _ o))

pub tested : (t : Table) → Tests t → table_ok t ≡ true
unfolding table_ok
tested t r =
    both (both (both (le-leb _ _ r.few) r.each) (all_of (λ q. le-leb _ _ (r.own-few q.mixed)) t)) r.once

-- ---- a record's tests are its rules

pub record_rules : (r : Record) → record_ok r ≡ true → RecordRules r
unfolding record_ok
record_rules r e =
    let k : fits key_id r.key_id ≡ true = search (and_left, and_right) in
    let m : fits mixed_token r.mixed ≡ true = search (and_left, and_right) in
    let n : fits username r.name ≡ true = search (and_left, and_right) in
    let c : leb r.count max_count ≡ true = search (and_left, and_right) in
    record {
      key-id = omega (arith, fits-least _ _ k, fits-most _ _ k);
      mixed-token = omega (arith, fits-least _ _ m, fits-most _ _ m);
      name-least = fits-least _ _ n;
      name-most = fits-most _ _ n;
      name-utf8 = fits-allowed username r.name n;
      counter = omega (arith, leb-true);
    }

pub record-ok : (r : Record) → RecordRules r → record_ok r ≡ true
unfolding record_ok
record-ok r h =
    let k : fits key_id r.key_id ≡ true = size_fits key_id r.key_id (omega arith) (omega arith) refl in
    let m : fits mixed_token r.mixed ≡ true = size_fits mixed_token r.mixed (omega arith) (omega arith) refl in
    let n : fits username r.name ≡ true = size_fits username r.name h.name-least h.name-most h.name-utf8 in
    both (both (both k m) n) (le-leb r.count max_count (omega arith))

-- ---- no KeyID twice

module _ (d : List ℕ) where
  pub among_at : (x : List ℕ) (xs : List (List ℕ)) (i : ℕ) → i < length xs → get_or xs i d ≡ x → among x xs ≡ true
  among_at x [] i h e = absurd (omega arith)
  among_at x (y ∷ xs) zero h e = rw (eq_bytes-same e)
  among_at x (y ∷ xs) (suc i) h e =
      let ih : among x xs ≡ true = among_at x xs i (omega arith) e in
      split (eq_bytes y x) (λ p. rw p) (λ p. rw p ih)

  among_found : (x : List ℕ) (xs : List (List ℕ)) → among x xs ≡ true → (i : ℕ) × (i < length xs) × (get_or xs i d ≡ x)
  among_found x [] e = clash e refl
  among_found x (y ∷ xs) e =
      split (eq_bytes y x) (λ h. (zero, omega arith, eq_bytes-eq y x h))
      (λ h. let f : (i : ℕ) × (i < length xs) × (get_or xs i d ≡ x) = among_found x xs (rw h at e) in (suc f.0, omega arith, f.2))

  distinct_at : (xs : List (List ℕ)) → distinct xs ≡ true → (i j : ℕ) → i < length xs → j < length xs
      → get_or xs i d ≡ get_or xs j d → i ≡ j
  distinct_at [] e i j h k p = absurd (omega arith)
  distinct_at (x ∷ xs) e zero zero h k p = refl
  distinct_at (x ∷ xs) e zero (suc j) h k p =
      clash (among_at x xs j (omega arith) (sym p)) (not-true _ (and_left (not (among x xs)) _ e))
  distinct_at (x ∷ xs) e (suc i) zero h k p =
      clash (among_at x xs i (omega arith) p) (not-true _ (and_left (not (among x xs)) _ e))
  distinct_at (x ∷ xs) e (suc i) (suc j) h k p =
      ap suc (distinct_at xs (and_right (not (among x xs)) _ e) i j (omega arith) (omega arith) p)

  distinct_by : (xs : List (List ℕ)) → ((i j : ℕ) → i < length xs → j < length xs → get_or xs i d ≡ get_or xs j d → i ≡ j)
      → distinct xs ≡ true
  distinct_by [] f = refl
  distinct_by (x ∷ xs) f =
      let ih : distinct xs ≡ true = distinct_by xs (λ i j h k p. omega (arith, f (suc i) (suc j) (omega arith) (omega arith) p)) in
      split (among x xs)
      (λ e. let g : (i : ℕ) × (i < length xs) × (get_or xs i d ≡ x) = among_found x xs e in
      let z : zero ≡ suc g.0 = f zero (suc g.0) (omega arith) (omega arith) (sym g.2) in
      absurd (omega arith))
      (λ e. rw e ih)

-- ---- both ways

key_id-at : (t : Table) (i : ℕ) → get_or (key_ids t) i [] ≡ (get_or t i no_record).key_id
key_id-at t i = get_or-map (λ r. r.key_id) t i no_record

pub obeys_rules : (t : Table) → table_ok t ≡ true → Rules t
obeys_rules t e =
    let p : Tests t = tests t e in
    record {
      few = p.few;
      each = λ i h. record_rules _ (all-at record_ok no_record t p.each i h);
      own-few = p.own-few;
      once =
          λ i j h k q.
          distinct_at [] (key_ids t) p.once i j (rw length-map h) (rw length-map k) (cc (key_id-at t i, key_id-at t j));
    }

pub rules_obey : (t : Table) → Rules t → table_ok t ≡ true
rules_obey t r =
    tested t
    record {
      few = r.few;
      each = all_by record_ok no_record t (λ i h. record-ok _ (r.each i h));
      own-few = r.own-few;
      once =
          distinct_by [] (key_ids t)
          (λ i j h k q. r.once i j (rw length-map at h) (rw length-map at k) (cc (key_id-at t i, key_id-at t j)));
    }
