-- FIPS 180-4, 4.2.2 and 5.3.3: the constants are the bits of the roots of the first primes, as the standard says. One computed test for each table, over
-- whole numbers only; the primes are computed too.
-- Assumes nothing.
use mathlib.Core.Path.{◌≡◌, refl}
use mathlib.Core.Bool.{Bool, true, false, not, ◌&&◌, ◌||◌}
use mathlib.Core.List.{List, [], ◌∷◌}
use Prim.Native.Nat.{ℕ, zero, suc, ◌+◌, ◌*◌, ◌%◌, ◌^◌}
use lib.Dec.{leb, ltb, eqb}
use Rattle.model.specs.Lists.{cons_if}
use Rattle.model.specs.Sha256.{State, K, H0}
use Rattle.model.proofs.Basics.{all_below}

-- p + 2 is prime: none of the numbers from 2 to p + 1 divides it
abbrev pub prime : ℕ → Bool
prime p = all_below p (λ i. not (eqb ((p + 2) % (i + 2)) 0))

-- the primes from 2 to n + 1, before ps
abbrev pub primes_to : ℕ → List ℕ → List ℕ
primes_to zero ps = ps
primes_to (suc n) ps = primes_to n (cons_if (prime n) (n + 2) ps)

-- q and 32 bits k after the point are the root of degree e of p, cut off: the root lies from q * 2 ^ 32 + k to one more, in units of 2 ^ -32
abbrev pub cut_at : ℕ → ℕ → ℕ → ℕ → Bool
cut_at e p k q = ltb k (2 ^ 32) && leb ((q * 2 ^ 32 + k) ^ e) (p * (2 ^ 32) ^ e) && ltb (p * (2 ^ 32) ^ e) ((q * 2 ^ 32 + k + 1) ^ e)

-- so for some q below n
abbrev pub some_below : ℕ → (ℕ → Bool) → Bool
some_below zero t = false
some_below (suc n) t = t n || some_below n t

-- each number of the second list has the bits of the root of the prime at its place in the first; no root here is 8 or more
abbrev pub roots : ℕ → List ℕ → List ℕ → Bool
roots e [] [] = true
roots e [] (k ∷ ks) = false
roots e (p ∷ ps) [] = false
roots e (p ∷ ps) (k ∷ ks) = some_below 8 (cut_at e p k) && roots e ps ks

abbrev pub words : State → List ℕ
words s = s.a ∷ s.b ∷ s.c ∷ s.d ∷ s.e ∷ s.f ∷ s.g ∷ s.h ∷ []

-- the primes up to 311 are 64, and each word of the table is a cube root's bits
pub cube_roots : roots 3 (primes_to 310 []) K ≡ true
unfolding K
cube_roots = refl

-- the primes up to 19 are eight, and each word is a square root's bits
pub square_roots : roots 2 (primes_to 18 []) (words H0) ≡ true
unfolding H0
square_roots = refl
