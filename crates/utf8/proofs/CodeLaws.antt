-- The turns of the loops, and bytes that are tested together.
-- Assumes nothing.
use mathlib.Core.Path.{◌≡◌, refl, sym, ap, ◌∙◌}
use mathlib.Core.Bool.{Bool, true, false, not, ◌&&◌, ◌||◌}
use mathlib.Core.List.{List, [], ◌∷◌}
use Prim.Native.Nat.{ℕ, zero, suc, ◌+◌, ◌-◌, ◌≤◌, ◌<◌}
use native.Mathlib.Numerals.{add-one}
use native.Mathlib.Omega.{arith}
use lib.ListN.{length, get_or, take, drop, length-drop, get_or-eq_default}
use Rattle.std.proofs.Common.{fold}
use Rattle.std.proofs.lemmas.List.Sums.{fold_more}
use Rattle.std.proofs.lemmas.List.{get_or-drop}
use lib.Dec.{leb, ltb}
use lib.Bits.{bit_or, or_lt, or_add_and, and_le_l, and_le_r}
use borrow.Author.Tests.{lt-ltb, le-ltb, leb-true, leb-false, le-leb, lt-leb}
use Rattle.model.specs.Utf8.{utf8_after, utf8}
use Rattle.model.proofs.Basics.{split}
use Rattle.model.proofs.Utf8Chars.{alternative}
use Rattle.utf8.specs.Places.{stands, each, stands_at, places, padded, plain_at, plain}
use Rattle.utf8.proofs.WindowLaws.{each_at}

-- ---- tests joined

pub next_place : (s : List ℕ) (at i : ℕ) {w m : Bool} → w ≡ not (places i s at)
    → m ≡ not (stands (get_or s (at + i) 0) (get_or s (at + i + 1) 0) (get_or s (at + i + 2) 0) (get_or s (at + i + 3) 0))
    → (w || m) ≡ not (places (i + 1) s at)
unfolding each stands_at
next_place s at i e f = rw (add-one i, e, f) (not-both (places i s at) _)
  where
    not-both : (x y : Bool) → (not x || not y) ≡ not (x && y)
    not-both true y = refl
    not-both false y = refl

-- ---- the edges of a stretch

module _ (s : List ℕ) (h : 3 ≤ length s) where
  pub front_three : (stands 0 0 0 (get_or s 0 0) && stands 0 0 (get_or s 0 0) (get_or s 1 0) && stands 0 (get_or s 0 0) (get_or s 1 0) (get_or s 2 0))
      ≡ places 3 (padded s) 0
  unfolding each stands_at
  front_three = refl

  pub back_three : (stands (get_or s (length s - 3) 0) (get_or s (length s - 2) 0) (get_or s (length s - 1) 0) 0
      && stands (get_or s (length s - 2) 0) (get_or s (length s - 1) 0) 0 0 && stands (get_or s (length s - 1) 0) 0 0 0)
      ≡ places 3 s (length s - 3)
  unfolding each stands_at
  back_three =
      let e : length s - 2 ≡ length s - 3 + 1 = omega arith in
      let f : length s - 1 ≡ length s - 3 + 2 = omega arith in
      rw (e, f) (at (length s - 3) (omega arith))
    where
      past : (n : ℕ) → length s ≤ n → get_or s n 0 ≡ 0
      past n l = get_or-eq_default s 0 l

      at : (k : ℕ) → length s ≡ k + 3 → (stands (get_or s k 0) (get_or s (k + 1) 0) (get_or s (k + 2) 0) 0
          && stands (get_or s (k + 1) 0) (get_or s (k + 2) 0) 0 0 && stands (get_or s (k + 2) 0) 0 0 0)
          ≡ places 3 s k
      at k e =
          let a : k + 0 ≡ k = omega arith in
          let b : k + 1 + 1 ≡ k + 2 = omega arith in
          rw (
            a,
            b,
            past (k + 3) (omega arith),
            past (k + 1 + 2) (omega arith),
            past (k + 1 + 3) (omega arith),
            past (k + 2 + 1) (omega arith),
            past (k + 2 + 2) (omega arith),
            past (k + 2 + 3) (omega arith),
          )

-- ---- ASCII

ascii_utf8 : (s : List ℕ) → ((i : ℕ) → i < length s → leb (get_or s i 0) 0x7F ≡ true) → utf8 s ≡ true
unfolding utf8_after
ascii_utf8 [] f = refl
ascii_utf8 (a ∷ s) f =
    ap (λ o. utf8_after o s) (alternative 0 a refl (omega arith) (leb-true a 0x7F (f 0 (omega arith))))
    ∙ ascii_utf8 s (λ i h. f (suc i) (omega arith))

pub plain-utf8 : (s : List ℕ) → plain (length s) s 0 ≡ true → utf8 s ≡ true
unfolding plain_at
plain-utf8 s e = ascii_utf8 s (λ i h. each_at (plain_at s) (length s) 0 e i (omega arith) (omega arith))

or_plain : (a b : ℕ) → leb (bit_or a b) 0x7F ≡ (leb a 0x7F && leb b 0x7F)
or_plain a b =
    split (leb a 0x7F)
    (λ e. split (leb b 0x7F)
    (λ f. rw (e, f) (le-leb (bit_or a b) 0x7F (omega (arith, or_lt 7 a b (omega (arith, leb-true a 0x7F e)) (omega (arith, leb-true b 0x7F f))))))
    (λ f. rw (e, f) (lt-leb (bit_or a b) 0x7F (omega (arith, leb-false b 0x7F f, or_add_and a b, and_le_l a b)))))
    (λ e. rw e (lt-leb (bit_or a b) 0x7F (omega (arith, leb-false a 0x7F e, or_add_and a b, and_le_r a b))))

next-plain : (s : List ℕ) (at i any : ℕ) → leb any 0x7F ≡ plain i s at → leb (bit_or any (get_or s (at + i) 0)) 0x7F ≡ plain (suc i) s at
unfolding each plain_at
next-plain s at i any e = rw (← e) (or_plain any (get_or s (at + i) 0))

below_80 : (any : ℕ) → ltb any 0x80 ≡ leb any 0x7F
below_80 any =
    split (leb any 0x7F)
    (λ f. lt-ltb any 0x80 (omega (arith, leb-true any 0x7F f)) ∙ sym f)
    (λ f. le-ltb any 0x80 (omega (arith, leb-false any 0x7F f)) ∙ sym f)

joined-plain : (s : List ℕ) (at n : ℕ) → at + n ≤ length s → leb (fold (λ any b. bit_or any b) 0 (take n (drop at s))) 0x7F ≡ plain n s at
unfolding each
joined-plain s at zero h = refl
joined-plain s at (suc n) h =
    let i : n < length (drop at s) = rw length-drop (omega arith) in
    rw (← add-one n, fold_more (λ (any b : ℕ). bit_or any b) 0 (drop at s) n 0 i, get_or-drop) (next-plain s at n _ (joined-plain s at n (omega arith)))

-- n bytes from a place on, all joined: the highest bit of one stays
pub plain-joined : (s : List ℕ) (at n r : ℕ) → at + n ≤ length s → r ≡ fold (λ any b. bit_or any b) 0 (take (at + n - at) (drop at s))
    → ltb r 0x80 ≡ plain n s at
plain-joined s at n r h e =
    let m : at + n - at ≡ n = omega arith in
    below_80 r ∙ ap (λ (x : ℕ). leb x 0x7F) (rw m at e) ∙ joined-plain s at n h
