-- The first elements of a list, filled up: how many, cut again, and written over the front of an array.
-- Assumes nothing.
use mathlib.Core.Path.{◌≡◌, refl, ap}
use mathlib.Core.List.{List, [], ◌∷◌, ◌++◌}
use Prim.Native.Nat.{ℕ, zero, suc, ◌≤◌}
use native.Mathlib.Omega.{arith}
use lib.ListN.{length, take, drop}
use Rattle.tlv.specs.Firsts.{firsts}

module _ {A : Type 0} (z : A) where
  -- in a list that is long enough
  pub firsts-take : (n : ℕ) (l : List A) → n ≤ length l → firsts z n l ≡ take n l
  unfolding firsts
  firsts-take zero l h = refl
  firsts-take (suc n) [] h = absurd (omega arith)
  firsts-take (suc n) (x ∷ l) h = ap (λ (k : List A). x ∷ k) (firsts-take n l (omega arith))

  pub length-firsts : (n : ℕ) (l : List A) → length (firsts z n l) ≡ n
  unfolding firsts
  length-firsts zero l = refl
  length-firsts (suc n) [] = ap suc (length-firsts n [])
  length-firsts (suc n) (x ∷ l) = ap suc (length-firsts n l)

  -- a padded list cut again
  pub firsts-firsts : (n : ℕ) (l : List A) → length l ≤ n → firsts z (length l) (firsts z n l) ≡ l
  unfolding firsts
  firsts-firsts n [] h = refl
  firsts-firsts zero (x ∷ l) h = absurd (omega arith)
  firsts-firsts (suc n) (x ∷ l) h = ap (λ (k : List A). x ∷ k) (firsts-firsts n l (omega arith))

  -- a list written over the front of nothing but z
  pub firsts-over : (n : ℕ) (l : List A) → length l ≤ n → l ++ drop (length l) (firsts z n []) ≡ firsts z n l
  unfolding firsts
  firsts-over n [] h = refl
  firsts-over zero (x ∷ l) h = absurd (omega arith)
  firsts-over (suc n) (x ∷ l) h = ap (λ (k : List A). x ∷ k) (firsts-over n l (omega arith))
