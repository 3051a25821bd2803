-- How a number is written at every width by shifts and masks, so that nothing is divided. Assumes nothing.
use mathlib.Core.Path.{◌≡◌, refl, sym, ap}
use mathlib.Core.List.{[], ◌∷◌, ◌++◌}
use Prim.Native.Nat.{ℕ, zero, suc, ◌+◌, ◌-◌, ◌*◌, ◌/◌, ◌%◌, ◌^◌}
use native.Mathlib.Nat.{zero-add, suc-add, mul-suc, pow-suc, pow-succ', div-div-eq-div-mul, div-one}
use lib.Bits.{bit_and, and_mask}
use lib.Pow.{pow-add}
use Rattle.model.specs.Tlv.{le}

-- w bytes have 8 * w bits
bits : (w : ℕ) → 2 ^ (8 * w) ≡ 256 ^ w
bits zero = refl
bits (suc w) = simp (mul-suc, pow-add, pow-suc, bits w)

-- so a shift to the right by w bytes is the quotient by 256 ^ w, and what is left over are the w lowest bytes, which a mask keeps
shift_quotient : (w n : ℕ) → n / 2 ^ (8 * w) ≡ n / 256 ^ w
shift_quotient w n = rw (bits w)

mask_remainder : (w n : ℕ) → bit_and n (2 ^ (8 * w) - 1) ≡ n % 256 ^ w
mask_remainder w n = rw (← bits w) (and_mask n (8 * w))

-- a number in one byte
pub le_byte : (n : ℕ) → le 1 n ≡ bit_and n 0xff ∷ []
unfolding le
le_byte n = ap (λ b. b ∷ []) (sym (mask_remainder 1 n))

-- a number in a + b bytes is that number in a bytes, then what a shift by a bytes leaves of it in b bytes
pub le-add : (a b n : ℕ) → le (a + b) n ≡ le a n ++ le b (n / 2 ^ (8 * a))
unfolding le
le-add zero b n = simp (zero-add, div-one)
le-add (suc a) b n = simp (suc-add, le-add a b (n / 256), shift_quotient, pow-succ', div-div-eq-div-mul)
