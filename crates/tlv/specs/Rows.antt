-- Rows of 32 bytes, each a fixed number of bytes after one of some places of a stretch.
use Rattle.std.specs.Prelude.{ℕ, ◌+◌, ◌%◌, ◌^◌, ◌≤◌, ◌<◌, Bool, false, List, [], ◌∷◌, map, length, take, drop, get_or, leb, eqb}
use Rattle.model.specs.Lists.{all, select, eq_bytes}
use Rattle.tlv.specs.Numbers.{num_at}

-- the row at a place
abbrev pub row : ℕ → List ℕ → List ℕ
row p s = take 32 (drop p s)

-- the rows so many bytes after these places
unfoldable pub rows : ℕ → List ℕ → List ℕ → List (List ℕ)
rows off at s = map (λ p. row (p + off) s) at

-- each of them lies in the stretch
pub record Within (off : ℕ) (at s : List ℕ) : Type 0 where
  pub each : (i : ℕ) → i < length at → get_or at i 0 + off + 32 ≤ length s

-- how many rows are v
unfoldable pub times : List ℕ → List (List ℕ) → ℕ
times v cs = length (select (λ c. eq_bytes c v) cs)

-- no row stands there more than n times
unfoldable pub each_few : ℕ → List (List ℕ) → Bool
each_few n cs = all (λ c. leb (times c cs) n) cs

-- the first row stands n times or more behind itself
unfoldable pub often : ℕ → List (List ℕ) → Bool
often n [] = false
often n (c ∷ cs) = leb n (times c cs)

-- The mark of a row, the sum of its eight numbers of 32 bits, wrapped. It is there for the time alone, to tell rows apart by one number: rows that are
-- the same have the same mark, and nothing else is asked of it.
unfoldable pub mark : List ℕ → ℕ
mark v =
    let word : ℕ → ℕ = λ i. num_at 4 v i in
    (word 0 + word 4 + word 8 + word 12 + (word 16 + word 20 + word 24 + word 28)) % 2 ^ 32

-- how often a mark stands there
unfoldable pub alike : ℕ → List ℕ → ℕ
alike x ms = length (select (λ m. eqb m x) ms)
