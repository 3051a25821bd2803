-- A list that fills an array.
use Rattle.std.specs.Prelude.{ℕ, zero, suc, List, [], ◌∷◌}

-- the first n elements of a list, and z for each that it lacks
unfoldable pub firsts : {A : Type 0} → A → ℕ → List A → List A
firsts z zero l = []
firsts z (suc n) [] = z ∷ firsts z n []
firsts z (suc n) (x ∷ l) = x ∷ firsts z n l
