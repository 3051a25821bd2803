-- Numbers as little-endian bytes, there and back: one fact over the width.
-- Assumes nothing.
use mathlib.Core.Path.{◌≡◌, refl, ap}
use mathlib.Core.List.{List, [], ◌∷◌}
use Prim.Native.Nat.{ℕ, zero, suc, ◌+◌, ◌*◌, ◌/◌, ◌%◌, ◌^◌, ◌<◌}
use native.Mathlib.Nat.{pow-zero, pow-suc, div-lt_iff_lt-mul}
use native.Mathlib.Omega.{arith}
use lib.Dec.{lit<}
use lib.ListN.{length}
use Rattle.model.specs.Tlv.{Bytes, num, le}

pub length-le : (w n : ℕ) → length (le w n) ≡ w
unfolding le
length-le zero n = refl
length-le (suc w) n = ap suc (length-le w (n / 256))

pub bytes_le : (w n : ℕ) → Bytes (le w n)
unfolding le
bytes_le zero n = tt
bytes_le (suc w) n = (omega arith, bytes_le w (n / 256))

-- what is written is read
pub num-le : (w n : ℕ) → n < 256 ^ w → num (le w n) ≡ n
unfolding le num
num-le zero n h = let k : n < 1 = rw pow-zero at h in omega arith
num-le (suc w) n h =
    let k : n / 256 < 256 ^ w = (div-lt_iff_lt-mul (lit< tt)).1 (rw pow-suc at h) in
    rw (num-le w (n / 256) k) (omega arith)

-- what is read is what was written
pub le-num : (s : List ℕ) → Bytes s → le (length s) (num s) ≡ s
unfolding le num
le-num [] b = refl
le-num (x ∷ s) b =
    let h : x < 256 = b.0 in
    let p : (x + 256 * num s) % 256 ≡ x = omega arith in
    let q : (x + 256 * num s) / 256 ≡ num s = omega arith in
    rw (p, q, le-num s b.1)

pub num_bound : (s : List ℕ) → Bytes s → num s < 256 ^ length s
unfolding num
num_bound [] b = rw pow-zero (omega arith)
num_bound (x ∷ s) b =
    let h : x < 256 = b.0 in
    rw pow-suc (omega (arith, num_bound s b.1))
