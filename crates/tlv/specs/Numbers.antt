-- Numbers at a place.
use Rattle.std.specs.Prelude.{◌≡◌, ℕ, ◌^◌, ◌<◌, List, take, drop}
use Rattle.model.specs.Tlv.{num}

-- the number that the w bytes from a place spell
unfoldable pub num_at : ℕ → List ℕ → ℕ → ℕ
num_at w s at = num (take w (drop at s))

-- a function gave it, and it fits w bytes
pub record NumberAt (w : ℕ) (s : List ℕ) (at r : ℕ) : Type 0 where
  pub value : r ≡ num_at w s at
  pub small : r < 256 ^ w
