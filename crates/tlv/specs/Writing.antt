-- Bytes written over a stretch.
use Rattle.std.specs.Prelude.{◌≡◌, ℕ, ◌+◌, ◌≤◌, List, ◌++◌, length, take, drop}

-- a stretch with xs written over it from a place on
abbrev pub splice : ℕ → List ℕ → List ℕ → List ℕ
splice at xs d = take at d ++ (xs ++ drop (at + length xs) d)

-- the n bytes xs were written over d from a place on: d' holds them now, all else is as it was, and r is the place after them
pub record Wrote (d : List ℕ) (at : ℕ) (xs : List ℕ) (n : ℕ) (d' : List ℕ) (r : ℕ) : Type 0 where
  pub size : length xs ≡ n
  pub room : at + n ≤ length d
  pub next : r ≡ at + n
  pub bytes : d' ≡ splice at xs d
