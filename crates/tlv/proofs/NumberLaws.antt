-- Numbers at a place: a number of a + b bytes is one of a bytes and one of b bytes, down to a single byte; and the same bytes are the same number.
-- Assumes nothing.
use mathlib.Core.Path.{◌≡◌, refl, sym, ap, ◌∙◌}
use mathlib.Core.List.{List, [], ◌∷◌}
use Prim.Native.Nat.{ℕ, zero, suc, ◌+◌, ◌-◌, ◌*◌, ◌^◌, ◌≤◌, ◌<◌}
use native.Mathlib.Nat.{zero-add, suc-add, mul-zero, mul-suc, one-mul, mul_assoc, pow-zero, pow-succ', mul-le-mul_left}
use native.Mathlib.Numerals.{add-one}
use native.Mathlib.Omega.{arith}
use lib.ListN.{length, get_or, take, drop, length-drop}
use lib.Seq.{length-take-le, take-nil, take-take, drop-drop}
use lib.Dec.{eqb}
use mir.Syntax.{w8}
use mir.Val.{Fits}
use borrow.Author.Tests.{eq-eqb, ne_eqb}
use Rattle.std.specs.Int.{sum_through, byte_worth}
use Rattle.model.specs.Lists.{eq_bytes}
use Rattle.model.specs.Tlv.{Bytes, num, le}
use Rattle.model.proofs.Basics.{split, clash, eq_bytes-eq, eq_bytes-same}
use Rattle.model.proofs.Numbers.{le-num}
use Rattle.tlv.specs.Numbers.{num_at, NumberAt}
use Rattle.tlv.specs.Heads.{between}

-- ---- one fact over the width

pow-add : (a b : ℕ) → 256 ^ (a + b) ≡ 256 ^ a * 256 ^ b
pow-add zero b = simp (zero-add, pow-zero, one-mul)
pow-add (suc a) b = simp (suc-add, pow-succ', mul_assoc, pow-add a b)

num-take-add : (a b : ℕ) (s : List ℕ) → num (take (a + b) s) ≡ num (take a s) + 256 ^ a * num (take b (drop a s))
unfolding num
num-take-add zero b s = simp (zero-add, pow-zero, one-mul)
num-take-add (suc a) b [] = simp (take-nil, mul-zero)
num-take-add (suc a) b (x ∷ s) = simp (suc-add, pow-succ', mul_assoc, num-take-add a b s) (omega arith)

pub number-add : (a b : ℕ) {s : List ℕ} {at x y : ℕ} → NumberAt a s at x → NumberAt b s (at + a) y
    → NumberAt (a + b) s at (x + 256 ^ a * y)
unfolding num_at
number-add a b {s} {at} {x} {y} p q =
    let fits : 256 ^ a * suc y ≤ 256 ^ a * 256 ^ b = mul-le-mul_left (256 ^ a) q.small in
    record {
      value = rw (p.value, q.value) (sym (num-take-add a b (drop at s) ∙ rw drop-drop));
      small = rw pow-add (omega (arith, rw mul-suc at fits, p.small));
    }

-- ---- as the library reads it

-- a byte is the number that it spells
num-one : (i : ℕ) (s : List ℕ) → num (take 1 (drop i s)) ≡ get_or s i 0
unfolding num
num-one zero [] = refl
num-one zero (x ∷ s) = omega arith
num-one (suc i) [] = refl
num-one (suc i) (x ∷ s) = num-one i s

-- the library's sum of bytes 0 to k, each by its worth
spelt : (k : ℕ) (s : List ℕ) → sum_through (λ i. byte_worth i (get_or s i 0)) k ≡ num (take (suc k) s)
spelt zero s = sym (num-one 0 s)
spelt (suc k) s = rw (← add-one (suc k), num-take-add (suc k) 1 s, num-one (suc k) s, spelt k s) (omega arith)

pub number_read : (k : ℕ) {s b : List ℕ} {at r : ℕ} → b ≡ take (suc k) (drop at s) → r ≡ sum_through (λ i. byte_worth i (get_or b i 0)) k
    → r < 256 ^ suc k → NumberAt (suc k) s at r
unfolding num_at
number_read k {s} {b} {at} e v h =
    record { value = v ∙ spelt k b ∙ rw (e, take-take (suc k) (suc k) (drop at s) (omega arith)); small = h }

-- ---- the bytes of a number, and bytes that are the same

-- a part of a slice of bytes
part_bytes : (w p : ℕ) (s : List ℕ) → ((i : ℕ) → Fits w8 (get_or s i 0)) → Bytes (take w (drop p s))
part_bytes zero p s f = tt
part_bytes (suc w) zero [] f = tt
part_bytes (suc w) (suc p) [] f = tt
part_bytes (suc w) zero (x ∷ s) f = ((f zero).fits, part_bytes w zero s (λ i. f (suc i)))
part_bytes (suc w) (suc p) (x ∷ s) f = part_bytes (suc w) p s (λ i. f (suc i))

num-same : (s t : List ℕ) → Bytes s → Bytes t → length s ≡ length t → eqb (num s) (num t) ≡ eq_bytes s t
num-same s t b d e =
    let p : le (length s) (num s) ≡ s = le-num s b in
    let q : le (length t) (num t) ≡ t = le-num t d in
    split (eq_bytes s t)
    (λ h. eq-eqb _ _ (ap num (eq_bytes-eq s t h)) ∙ sym h)
    (λ h. ne_eqb (num s) (num t) (λ k. let st : s ≡ t = cc in clash (eq_bytes-same st) h) ∙ sym h)

-- the number at a place, written, is the bytes there
pub number-written : (w at : ℕ) {s : List ℕ} {x : ℕ} → ((i : ℕ) → Fits w8 (get_or s i 0)) → at + w ≤ length s → NumberAt w s at x
    → le w x ≡ take w (drop at s)
unfolding num_at
number-written w at {s} f h m =
    let l : length (take w (drop at s)) ≡ w = length-take-le w (drop at s) (simp length-drop (omega arith)) in
    rw m.value (rw l at (le-num (take w (drop at s)) (part_bytes w at s f)))

-- two stretches of w bytes are the same exactly where their numbers are
pub number_same : (w : ℕ) {a b : List ℕ} {p q x y : ℕ} → ((i : ℕ) → Fits w8 (get_or a i 0)) → ((i : ℕ) → Fits w8 (get_or b i 0))
    → p + w ≤ length a → q + w ≤ length b → NumberAt w a p x → NumberAt w b q y → eqb x y ≡ eq_bytes (take w (drop p a)) (take w (drop q b))
unfolding num_at
number_same w {a} {b} {p} {q} f g h k m n =
    let long : (s : List ℕ) (at : ℕ) → at + w ≤ length s → length (take w (drop at s)) ≡ w =
    λ s at l. length-take-le w (drop at s) (simp length-drop (omega arith)) in
    rw (m.value, n.value)
    (num-same (take w (drop p a)) (take w (drop q b)) (part_bytes w p a f) (part_bytes w q b g) (long a p h ∙ sym (long b q k)))

-- a part of a part
take_in : (w i n : ℕ) (s : List ℕ) → i + w ≤ n → take w (drop i (take n s)) ≡ take w (drop i s)
take_in w zero n s h = take-take w n s (omega arith)
take_in w (suc i) zero s h = absurd (omega arith)
take_in w (suc i) (suc n) [] h = refl
take_in w (suc i) (suc n) (x ∷ s) h = take_in w i n s (omega arith)

pub number_in : (w i n p : ℕ) {s : List ℕ} {at x : ℕ} → i + w ≤ n → at ≡ p + i → NumberAt w s at x → x ≡ num_at w (take n (drop p s)) i
unfolding num_at
number_in w i n p {s} h e m = m.value ∙ rw (e, take_in w i n (drop p s) h, drop-drop)

-- the number that all bytes of a part spell
pub num-between : (s : List ℕ) (start end : ℕ) → num (between s start end) ≡ num_at (end - start) s start
unfolding num_at
num-between s start end = refl
