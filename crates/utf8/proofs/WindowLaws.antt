-- Places of a stretch tested in any order, some of them twice: together they say that it is well formed.
-- Assumes nothing.
use mathlib.Core.Path.{◌≡◌, refl, sym, ap, ◌∙◌}
use mathlib.Core.Bool.{Bool, true, false, ◌&&◌, ◌||◌}
use mathlib.Core.List.{List, [], ◌∷◌}
use Prim.Native.Nat.{ℕ, zero, suc, ◌+◌, ◌-◌, ◌≤◌, ◌<◌}
use native.Mathlib.Omega.{arith}
use lib.ListN.{length}
use lib.Dec.{leb}
use borrow.Author.Tests.{leb-true, leb-false, not-true}
use Rattle.model.specs.Utf8.{utf8}
use Rattle.model.proofs.Basics.{split, clash, and_left, and_right, both, or_left, or_right}
use Rattle.utf8.specs.Places.{owed, stands, each, stands_at, places, padded}
use Rattle.utf8.proofs.PlaceLaws.{near, second-within, utf8_near}

-- ---- a place past the end

-- a zero stands exactly where no byte is to come
stands-zero : (a b c : ℕ) → owed a b c ≡ false → stands a b c 0 ≡ true
unfolding stands
stands-zero a b c e = rw e

zero-stands : (a b c : ℕ) → stands a b c 0 ≡ true → owed a b c ≡ false
unfolding stands
zero-stands a b c e = split (owed a b c) (λ o. let t = second-within c 0 (rw o at e) in absurd (omega (arith, t.0))) (λ o. o)

-- ---- all places, one by one

-- a place of a stretch is the next place with one byte more before it
later : (x : ℕ) (w : List ℕ) (i : ℕ) → stands_at (x ∷ w) (suc i) ≡ stands_at w i
unfolding stands_at
later x w i =
    let e : suc i + 1 ≡ suc (i + 1) = omega arith in
    let f : suc i + 2 ≡ suc (i + 2) = omega arith in
    let g : suc i + 3 ≡ suc (i + 3) = omega arith in
    rw (e, f, g)

near_at : (s : List ℕ) (a b c : ℕ) → near a b c s ≡ true → (i : ℕ) → stands_at (a ∷ b ∷ c ∷ s) i ≡ true
unfolding near stands_at
near_at [] a b c e zero =
    stands-zero a b c (or_left (owed a b c) _ (or_left (owed a b c || owed b c 0) _ (not-true _ e)))
near_at [] a b c e (suc zero) =
    stands-zero b c 0 (or_right (owed a b c) _ (or_left (owed a b c || owed b c 0) _ (not-true _ e)))
near_at [] a b c e (suc (suc zero)) = stands-zero c 0 0 (or_right (owed a b c || owed b c 0) _ (not-true _ e))
near_at [] a b c e (suc (suc (suc i))) =
    later a (b ∷ c ∷ []) (suc (suc i)) ∙ later b (c ∷ []) (suc i) ∙ later c [] i ∙ stands-zero 0 0 0 refl
near_at (d ∷ s) a b c e zero = and_left (stands a b c d) _ e
near_at (d ∷ s) a b c e (suc i) =
    later a (b ∷ c ∷ d ∷ s) i ∙ near_at s b c d (and_right (stands a b c d) _ e) i

near_by : (s : List ℕ) (a b c : ℕ) → ((i : ℕ) → i < length s + 3 → stands_at (a ∷ b ∷ c ∷ s) i ≡ true) → near a b c s ≡ true
unfolding near stands_at
near_by [] a b c f =
    let e = zero-stands a b c (f 0 (omega arith)) in
    let g = zero-stands b c 0 (f 1 (omega arith)) in
    let h = zero-stands c 0 0 (f 2 (omega arith)) in
    rw (e, g, h)
near_by (d ∷ s) a b c f =
    both (f 0 (omega arith))
    (near_by s b c d (λ i h. sym (later a (b ∷ c ∷ d ∷ s) i) ∙ f (suc i) (omega arith)))

-- of a stretch, three zeros before it
everywhere : (s : List ℕ) → utf8 s ≡ true → (i : ℕ) → stands_at (padded s) i ≡ true
everywhere s e i = near_at s 0 0 0 (sym (utf8_near s) ∙ e) i

by_places : (s : List ℕ) → ((i : ℕ) → i < length s + 3 → stands_at (padded s) i ≡ true) → utf8 s ≡ true
by_places s f = utf8_near s ∙ near_by s 0 0 0 f

-- ---- tests that imply each other

iff : {p q : Bool} → (p ≡ true → q ≡ true) → (q ≡ true → p ≡ true) → p ≡ q
iff {p} {q} f g = split p (λ e. e ∙ sym (f e)) (λ e. split q (λ h. clash (g h) e) (λ h. e ∙ sym h))

untrue : {p q : Bool} → (p ≡ true → q ≡ true) → q ≡ false → p ≡ false
untrue {p} f e = split p (λ h. clash (f h) e) (λ h. h)

-- ---- a test at places one after the other

module _ (p : ℕ → Bool) where
  pub each_at : (n at : ℕ) → each p n at ≡ true → (i : ℕ) → at ≤ i → i < at + n → p i ≡ true
  unfolding each
  each_at zero at e i l h = absurd (omega arith)
  each_at (suc n) at e i l h =
      split (leb (at + n) i)
      (λ f. let g : i ≡ at + n = omega (arith, leb-true (at + n) i f) in rw g (and_right (each p n at) _ e))
      (λ f. each_at n at (and_left (each p n at) _ e) i l (leb-false (at + n) i f))

  each_by : (n at : ℕ) → ((i : ℕ) → at ≤ i → i < at + n → p i ≡ true) → each p n at ≡ true
  unfolding each
  each_by zero at f = refl
  each_by (suc n) at f = both (each_by n at (λ i l h. f i l (omega arith))) (f (at + n) (omega arith) (omega arith))

  -- k more that pass, and k that do not
  pub k_more : (k at : ℕ) → each p at 0 ≡ true → each p k at ≡ true → each p (at + k) 0 ≡ true
  k_more k at e f =
      each_by (at + k) 0
      (λ i m n. split (leb at i)
      (λ g. each_at k at f i (leb-true at i g) (omega arith))
      (λ g. each_at at 0 e i m (omega (arith, leb-false at i g))))

  pub k_wrong : (k at n : ℕ) → at + k ≤ n → each p k at ≡ false → each p n 0 ≡ false
  k_wrong k at n h f = untrue (λ e. each_by k at (λ i l m. each_at n 0 e i (omega arith) (omega arith))) f

  -- the last k together, where all before a place further on have passed
  pub k_last : (k last at n : ℕ) → last + k ≡ n → last ≤ at → each p at 0 ≡ true → each p k last ≡ each p n 0
  k_last k last at n h l e =
      iff
      (λ f. each_by n 0
      (λ i m o. split (leb at i)
      (λ g. each_at k last f i (omega (arith, leb-true at i g)) (omega arith))
      (λ g. each_at at 0 e i m (omega (arith, leb-false at i g)))))
      (λ f. each_by k last (λ i m o. each_at n 0 f i (omega arith) (omega arith)))

-- ---- a stretch of three bytes and more

module _ (s : List ℕ) where
  past_zeros : (i : ℕ) → stands_at (padded s) (i + 3) ≡ stands_at s i
  past_zeros i =
      let e : i + 3 ≡ suc (suc (suc i)) = omega arith in
      rw e (later 0 (0 ∷ 0 ∷ s) (suc (suc i)) ∙ later 0 (0 ∷ s) (suc i) ∙ later 0 s i)

  inside : utf8 s ≡ true → (i : ℕ) → stands_at s i ≡ true
  inside e i = sym (past_zeros i) ∙ everywhere s e (i + 3)

  -- at the front, behind the end, and between
  long_all : 3 ≤ length s → places 3 (padded s) 0 ≡ true → places 3 s (length s - 3) ≡ true → places (length s - 3) s 0 ≡ true → utf8 s ≡ true
  long_all h e f g =
      by_places s
      (λ i l. split (leb 3 i)
      (λ m. let k : i - 3 + 3 ≡ i = omega (arith, leb-true 3 i m) in
      rw (ap (stands_at (padded s)) k) at (past_zeros (i - 3) ∙ rest (i - 3) (omega (arith, leb-true 3 i m))))
      (λ m. each_at (stands_at (padded s)) 3 0 e i (omega arith) (leb-false 3 i m)))
    where
      rest : (i : ℕ) → i < length s → stands_at s i ≡ true
      rest i l =
          split (leb (length s - 3) i)
          (λ m. each_at (stands_at s) 3 (length s - 3) f i (leb-true (length s - 3) i m) (omega arith))
          (λ m. each_at (stands_at s) (length s - 3) 0 g i (omega arith) (omega (arith, leb-false (length s - 3) i m)))

  abbrev Edges : Bool
  Edges = places 3 (padded s) 0 && places 3 s (length s - 3)

  pub edges_wrong : Edges ≡ false → utf8 s ≡ false
  edges_wrong f =
      untrue (λ e. both (each_by (stands_at (padded s)) 3 0 (λ i l h. everywhere s e i)) (each_by (stands_at s) 3 (length s - 3) (λ i l h. inside e i))) f

  pub long_is : 3 ≤ length s → Edges ≡ true → places (length s - 3) s 0 ≡ utf8 s
  long_is h e =
      iff (long_all h (and_left (places 3 (padded s) 0) _ e) (and_right (places 3 (padded s) 0) _ e))
      (λ u. each_by (stands_at s) (length s - 3) 0 (λ i l m. inside u i))
