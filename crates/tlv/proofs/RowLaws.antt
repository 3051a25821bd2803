-- Rows of 32 bytes: two stretches part by part, how often a row and a mark stand there, what a walk over the rows goes by, and a row more.
-- Assumes nothing.
use mathlib.Core.Path.{◌≡◌, refl, sym, ap, ◌∙◌, fun_ext}
use mathlib.Core.Bool.{Bool, true, false, not, cond, ◌&&◌, and-true, and-false}
use mathlib.Core.List.{List, [], ◌∷◌, ◌++◌, map, map-append}
use Prim.Native.Nat.{ℕ, zero, suc, ◌+◌, ◌-◌, ◌≤◌, ◌<◌, min}
use native.Mathlib.Nat.{zero-add, suc-add, pos_of_ne-zero}
use native.Mathlib.Numerals.{add-one}
use native.Mathlib.Omega.{arith}
use lib.ListN.{length, get_or, take, drop, set, drop_of_length-le, length-append, length-drop, length-map, get_or-append, get_or-map}
use lib.Seq.{take-length, take-nil, take-suc, take-suc-set, drop-cons, drop-drop, get_or_at}
use lib.Dec.{eqb, leb, ltb}
use borrow.Author.Tests.{ltb-true, ltb-false, leb-true, leb-false, le-leb, lt-leb, eq-eqb, ne_eqb, eqb-true, eqb-false}
use Rattle.model.specs.Lists.{all, cons_if, eq_bytes, among, distinct}
use Rattle.model.proofs.Basics.{split, eq_bytes-refl, eq_bytes-eq}
use Rattle.tlv.specs.Rows.{rows, row, Within, times, often, each_few, mark, alike}

-- ---- two stretches, part by part

same_add : (m n : ℕ) (x y : List ℕ)
    → eq_bytes (take (m + n) x) (take (m + n) y) ≡ (eq_bytes (take n (drop m x)) (take n (drop m y)) && eq_bytes (take m x) (take m y))
unfolding eq_bytes
same_add zero n x y = simp (zero-add, and-true)
same_add (suc m) n [] [] = simp (suc-add, take-nil)
same_add (suc m) n [] (b ∷ y) = simp (suc-add, and-false)
same_add (suc m) n (a ∷ x) [] = simp (suc-add, and-false)
same_add (suc m) n (a ∷ x) (b ∷ y) =
    split (eqb a b) (λ e. simp (suc-add, e, same_add m n x y)) (λ e. simp (suc-add, e, and-false))

-- m bytes at two places, and n more: r and u are what tests of them gave
pub same_more : (m n : ℕ) (a b : List ℕ) (p q : ℕ) {r u : Bool} → r ≡ eq_bytes (take m (drop p a)) (take m (drop q b))
    → u ≡ (eq_bytes (take n (drop (p + m) a)) (take n (drop (q + m) b)) && r) → u ≡ eq_bytes (take (m + n) (drop p a)) (take (m + n) (drop q b))
same_more m n a b p q e f = f ∙ rw (e, same_add m n (drop p a) (drop q b), drop-drop m p a, drop-drop m q b)

-- ---- how often a row stands there

times_none : (v : List ℕ) → times v [] ≡ 0
unfolding times
times_none v = refl

length-cons_if : {A : Type 0} (b : Bool) (x : A) (xs : List A) → length (cons_if b x xs) ≡ cond b 1 0 + length xs
length-cons_if true x xs = omega arith
length-cons_if false x xs = omega arith

-- one row more counts if it is v
times_cons : (v c : List ℕ) (cs : List (List ℕ)) → times v (c ∷ cs) ≡ cond (eq_bytes c v) 1 0 + times v cs
unfolding times
times_cons v c cs = length-cons_if (eq_bytes c v) c _

-- and itself always
times-own : (c : List ℕ) (cs : List (List ℕ)) → times c (c ∷ cs) ≡ 1 + times c cs
times-own c cs = rw (times_cons c c cs, eq_bytes-refl c)

-- each row stands at most `most` times from its own place on
abbrev pub few_from : ℕ → List (List ℕ) → Bool
few_from most [] = true
few_from most (c ∷ cs) = leb (times c (c ∷ cs)) most && few_from most cs

-- where the first row is few, every row is as few without it
few_without : (most : ℕ) (c : List ℕ) (cs : List (List ℕ)) → leb (times c (c ∷ cs)) most ≡ true
    → (x : List ℕ) → leb (times x (c ∷ cs)) most ≡ leb (times x cs) most
few_without most c cs h x =
    split (eq_bytes c x)
    (λ e. let k : leb (times x (c ∷ cs)) most ≡ true = rw (← eq_bytes-eq c x e) h in
    k ∙ sym (le-leb (times x cs) most (omega (arith, leb-true, times_cons x c cs))))
    (λ e. rw (times_cons x c cs, e, zero-add))

-- one more is too many exactly if there are so many already
more_than : (n k : ℕ) → leb (1 + k) n ≡ not (leb n k)
more_than n k = split (leb n k) (λ e. rw e (lt-leb (1 + k) n (omega (arith, leb-true)))) (λ e. rw e (le-leb (1 + k) n (omega (arith, leb-false))))

-- no row stands there more often than there are rows
times-most : (v : List ℕ) (cs : List (List ℕ)) → times v cs ≤ length cs
times-most v [] = omega (arith, times_none v)
times-most v (c ∷ cs) =
    split (eq_bytes c v)
    (λ e. rw (times_cons v c cs, e) (omega (arith, times-most v cs)))
    (λ e. rw (times_cons v c cs, e) (omega (arith, times-most v cs)))

few-short : (most : ℕ) (cs : List (List ℕ)) → length cs ≤ most → few_from most cs ≡ true
few-short most [] h = refl
few-short most (c ∷ cs) h =
    rw (le-leb (times c (c ∷ cs)) most (omega (arith, times-most c (c ∷ cs)))) (few-short most cs (omega arith))

-- to count each row from its own place on is enough: the first of its like counts them all
pub few-from : (most : ℕ) (cs : List (List ℕ)) → each_few most cs ≡ few_from most cs
unfolding each_few
few-from most [] = refl
few-from most (c ∷ cs) =
    split (leb (times c (c ∷ cs)) most)
    (λ e. rw e (ap (λ (p : List ℕ → Bool). all p cs) (fun_ext (few_without most c cs e)) ∙ few-from most cs))
    (λ e. rw e)

-- at least once is among them
times-among : (v : List ℕ) (cs : List (List ℕ)) → not (eqb (times v cs) 0) ≡ among v cs
times-among v [] = rw (times_none v)
times-among v (c ∷ cs) =
    split (eq_bytes c v)
    (λ e. rw (times_cons v c cs, e) (ap not (ne_eqb (1 + times v cs) 0 (λ k. omega arith))))
    (λ e. rw (times_cons v c cs, e, zero-add) (times-among v cs))

pub among-times : {n : ℕ} (v : List ℕ) (cs : List (List ℕ)) → n ≡ times v (drop 0 cs) → not (eqb n 0) ≡ among v cs
among-times v cs e = rw e (times-among v cs)

-- a row stands once from its own place on exactly if it is not among the rest
once_alone : (c : List ℕ) (cs : List (List ℕ)) → leb (times c (c ∷ cs)) 1 ≡ not (among c cs)
once_alone c cs =
    let n = times-own c cs in
    split (eqb (times c cs) 0)
    (λ e. let z : times c cs ≡ 0 = eqb-true _ _ e in rw (n, ← times-among c cs, e, z))
    (λ e. let k : times c cs ≡ 0 → ⊥ = eqb-false _ _ e in
    rw (n, ← times-among c cs, e) (lt-leb (1 + times c cs) 1 (omega (arith, pos_of_ne-zero k))))

-- at most once each is none twice
pub few-distinct : (cs : List (List ℕ)) → each_few 1 cs ≡ distinct cs
few-distinct cs = few-from 1 cs ∙ from-own cs
  where
    from-own : (cs : List (List ℕ)) → few_from 1 cs ≡ distinct cs
    from-own [] = refl
    from-own (c ∷ cs) = rw (once_alone c cs, from-own cs)

-- ---- how often a mark stands there

alike_none : (x : ℕ) → alike x [] ≡ 0
unfolding alike
alike_none x = refl

alike_cons : (x m : ℕ) (ms : List ℕ) → alike x (m ∷ ms) ≡ cond (eqb m x) 1 0 + alike x ms
unfolding alike
alike_cons x m ms = length-cons_if (eqb m x) m _

pub alike_end : (x : ℕ) (ms : List ℕ) (i : ℕ) → length ms ≤ i → alike x (drop i ms) ≡ 0
alike_end x ms i h = ap (alike x) (drop_of_length-le ms {i = i} h) ∙ alike_none x

pub alike_at : (x : ℕ) (ms : List ℕ) (i : ℕ) {b : Bool} → i < length ms → eqb (get_or ms i 0) x ≡ b
    → alike x (drop i ms) ≡ cond b 1 0 + alike x (drop (i + 1) ms)
alike_at x ms i h e = rw (add-one, drop-cons ms i 0 h, alike_cons, e)

-- a row stands there no more often than its mark, whatever function of the row a mark is
times-alike : (f : List ℕ → ℕ) (v : List ℕ) (cs : List (List ℕ)) → times v cs ≤ alike (f v) (map f cs)
times-alike f v [] = omega (arith, times_none v)
times-alike f v (c ∷ cs) =
    split (eq_bytes c v)
    (λ e. rw (times_cons v c cs, alike_cons, e, eq-eqb (f c) (f v) (ap f (eq_bytes-eq c v e))) (omega (arith, times-alike f v cs)))
    (λ e. rw (times_cons v c cs, alike_cons, e) (omega (arith, times-alike f v cs)))

pub map-drop : {A B : Type 0} (f : A → B) (n : ℕ) (cs : List A) → drop n (map f cs) ≡ map f (drop n cs)
map-drop f zero cs = refl
map-drop f (suc n) [] = refl
map-drop f (suc n) (c ∷ cs) = map-drop f n cs

-- what is left of a list from a place on, as a slice of it is seen
pub take-rest : {A : Type 0} (i : ℕ) (l : List A) → take (length l - i) (drop i l) ≡ drop i l
take-rest i l = rw (← length-drop i l, take-length (drop i l))

-- ---- a walk over the rows

module _ (off : ℕ) (at s : List ℕ) where
  pub length-rows : length (rows off at s) ≡ length at
  unfolding rows
  length-rows = length-map at (λ p. row (p + off) s)

  pub length_marks : length (map mark (rows off at s)) ≡ length at
  length_marks = length-map (rows off at s) mark ∙ length-rows

  -- no more rows than may stand there
  pub few-all : (most : ℕ) → length at ≤ most → true ≡ each_few most (rows off at s)
  few-all most h = sym (few-from most (rows off at s) ∙ few-short most (rows off at s) (omega (arith, length-rows)))

  module _ (i : ℕ) where
    -- the rows behind it, which end where the places do
    pub rows_behind : rows off (take (length at - i) (drop i at)) s ≡ drop i (rows off at s)
    unfolding rows
    rows_behind = rw take-rest (sym (map-drop (λ p. row (p + off) s) i at))

    -- past the last row
    pub rows_end : length at ≤ i → drop i (rows off at s) ≡ []
    rows_end h = drop_of_length-le (rows off at s) {i = i} (omega (arith, length-rows))

    -- the rows from it on, or none where it is past the end
    pub rows_from : (m : ℕ) → m ≡ min i (length at) → rows off (take (length at - m) (drop m at)) s ≡ drop i (rows off at s)
    unfolding rows
    rows_from m e =
        split (leb i (length at))
        (λ h. let l : m ≡ i = omega (arith, e, leb-true _ _ h) in rw l rows_behind)
        (λ h.
        let l : length at - m ≡ 0 = omega (arith, e, leb-false _ _ h) in
        rw l (sym (rows_end (omega (arith, leb-false _ _ h)))))

    -- of the last `most` rows none is too often there
    pub few-end : (most : ℕ) → length at - most ≤ i → few_from most (drop i (rows off at s)) ≡ true
    few-end most h = few-short most (drop i (rows off at s)) (simp length-drop (omega (arith, length-rows)))

    -- at row i
    module _ (h : i < length at) where
      pub rows_at : drop i (rows off at s) ≡ row (get_or at i 0 + off) s ∷ drop (i + 1) (rows off at s)
      unfolding rows
      rows_at =
          let f : ℕ → List ℕ = λ p. row (p + off) s in
          rw (add-one, drop-cons (rows off at s) i (f 0) (omega (arith, length-rows)), get_or-map f at i 0)

      -- b is what a test of this row gave
      pub times-at : {b : Bool} (v : List ℕ) → b ≡ eq_bytes (row (get_or at i 0 + off) s) v
          → times v (drop i (rows off at s)) ≡ cond b 1 0 + times v (drop (i + 1) (rows off at s))
      times-at v e = rw (rows_at, times_cons, ← e)

      -- where k is how often it stands behind its place
      pub often-at : (most : ℕ) {k : ℕ} → k ≡ times (row (get_or at i 0 + off) s) (drop (i + 1) (rows off at s))
          → leb most k ≡ often most (drop i (rows off at s))
      unfolding often
      often-at most e = rw (rows_at, e)

      -- the test goes on behind it, or is false: r is what a test of this row gave, b which way was taken
      pub few-at : (most : ℕ) {r b : Bool} → r ≡ often most (drop i (rows off at s)) → r ≡ b
          → few_from most (drop i (rows off at s)) ≡ (not b && few_from most (drop (i + 1) (rows off at s)))
      unfolding often
      few-at most e f = rw (← f, e, rows_at, times-own, more_than)

      mark-at : get_or (map mark (rows off at s)) i 0 ≡ mark (row (get_or at i 0 + off) s)
      mark-at =
          let ms = map mark (rows off at s) in
          let here : drop i ms ≡ get_or ms i 0 ∷ drop (suc i) ms = drop-cons ms i 0 (omega (arith, length_marks)) in
          let row_here : drop i ms ≡ mark (row (get_or at i 0 + off) s) ∷ map mark (drop (i + 1) (rows off at s)) = rw (map-drop, rows_at) in
          cc

      -- its mark written behind those of the rows before it
      pub marks-more : (ms : List ℕ) {m : ℕ} → i < length ms → m ≡ mark (row (get_or at i 0 + off) s)
          → take i ms ≡ take i (map mark (rows off at s))
          → take (i + 1) (set ms i m) ≡ take (i + 1) (map mark (rows off at s))
      marks-more ms {m} k e f =
          rw (add-one, take-suc-set ms i m k, f, e, take-suc (map mark (rows off at s)) i 0 (omega (arith, length_marks)), mark-at)

      -- where k, how often its mark stands behind its place, is less than so often
      pub seldom-at : (most : ℕ) {k : ℕ} → k ≡ alike (get_or (map mark (rows off at s)) i 0) (drop (i + 1) (map mark (rows off at s))) → k < most
          → false ≡ often most (drop i (rows off at s))
      unfolding often
      seldom-at most {k} e h =
          let few = times-alike mark (row (get_or at i 0 + off) s) (drop (i + 1) (rows off at s)) in
          let k-is : k ≡ alike (mark (row (get_or at i 0 + off) s)) (map mark (drop (i + 1) (rows off at s))) = e ∙ rw (mark-at, map-drop) in
          sym (rw rows_at (lt-leb most _ (omega (arith, few, k-is, h))))

-- ---- a place more

module _ (off : ℕ) (at s : List ℕ) (p : ℕ) where
  pub rows_more : rows off (at ++ (p ∷ [])) s ≡ rows off at s ++ (row (p + off) s ∷ [])
  unfolding rows
  rows_more = map-append (λ p. row (p + off) s) at (p ∷ [])

  pub within_more : Within off at s → p + off + 32 ≤ length s → Within off (at ++ (p ∷ [])) s
  within_more w k =
      record {
        each =
            λ i h.
            split (ltb i (length at))
            (λ e. let l : i < length at = ltb-true _ _ e in rw (get_or-append at (p ∷ []) 0 i l) (w.each i l))
            (λ e. let l : length at ≡ i = omega (arith, ltb-false, length-append at (p ∷ [])) in rw (get_or_at at p [] 0 i l) k);
      }
