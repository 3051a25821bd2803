-- FIPS 180-4, Secure Hash Standard: SHA-256, heading by heading. Words in quotes are the standard's.
--
-- A word is a number below 2 ^ 32, a message a list of bytes. The standard hashes messages of fewer than 2 ^ 64 bits; here a longer one has a hash too, in
-- which its length stands modulo 2 ^ 64, so that every list has one.
use Rattle.std.specs.Prelude.{ℕ, zero, suc, ◌+◌, ◌-◌, ◌*◌, ◌/◌, ◌%◌, ◌^◌, List, [], ◌∷◌, ◌++◌, length, get_or, take, drop, replicate}
use Rattle.std.specs.Int.Bits.{bit_and, bit_or, bit_xor}

-- ---- 2.2.2, "Symbols and Operations": "∧", "∨" and "⊕" are `bit_and`, `bit_or` and `bit_xor`, which join two words bit by bit

-- "¬", "Bitwise complement operation"
abbrev pub flip : ℕ → ℕ
flip x = 2 ^ 32 - 1 - x

-- "x << n", in which what passes 32 bits is dropped
abbrev pub shl : ℕ → ℕ → ℕ
shl n x = x * 2 ^ n % 2 ^ 32

-- ---- 3.1, "Bit Strings and Integers": words are "big-endian"

-- the n lowest bytes of a number, the highest first
unfoldable pub be : ℕ → ℕ → List ℕ
be zero x = []
be (suc n) x = x / 256 ^ n % 256 ∷ be n x

-- the word that four bytes from place i on spell, the highest first
abbrev pub word_at : List ℕ → ℕ → ℕ
word_at s i = get_or s i 0 * 16777216 + get_or s (i + 1) 0 * 65536 + get_or s (i + 2) 0 * 256 + get_or s (i + 3) 0

-- ---- 3.2, "Operations on Words"

-- "Addition modulo 2^w"; w is 32
infixl 65 ◌⊞◌
unfoldable pub ◌⊞◌ : ℕ → ℕ → ℕ
x ⊞ y = (x + y) % 2 ^ 32

-- "SHR n (x) = x >> n"
abbrev pub shr : ℕ → ℕ → ℕ
shr n x = x / 2 ^ n

-- "ROTR n (x) = (x >> n) ∨ (x << w - n)"
unfoldable pub rotr : ℕ → ℕ → ℕ
rotr n x = bit_or (shr n x) (shl (32 - n) x)

-- ---- 4.1.2, "SHA-224 and SHA-256 Functions"

unfoldable pub Ch : ℕ → ℕ → ℕ → ℕ
Ch x y z = bit_xor (bit_and x y) (bit_and (flip x) z)

unfoldable pub Maj : ℕ → ℕ → ℕ → ℕ
Maj x y z = bit_xor (bit_xor (bit_and x y) (bit_and x z)) (bit_and y z)

unfoldable pub Σ0 : ℕ → ℕ
Σ0 x = bit_xor (bit_xor (rotr 2 x) (rotr 13 x)) (rotr 22 x)

unfoldable pub Σ1 : ℕ → ℕ
Σ1 x = bit_xor (bit_xor (rotr 6 x) (rotr 11 x)) (rotr 25 x)

unfoldable pub σ0 : ℕ → ℕ
σ0 x = bit_xor (bit_xor (rotr 7 x) (rotr 18 x)) (shr 3 x)

unfoldable pub σ1 : ℕ → ℕ
σ1 x = bit_xor (bit_xor (rotr 17 x) (rotr 19 x)) (shr 10 x)

-- ---- 4.2.2, "SHA-224 and SHA-256 Constants": "the first thirty-two bits of the fractional parts of the cube roots of the first sixty-four prime numbers",
-- which the laws compute

unfoldable pub K : List ℕ
K =
    0x428a2f98 ∷ 0x71374491 ∷ 0xb5c0fbcf ∷ 0xe9b5dba5 ∷ 0x3956c25b ∷ 0x59f111f1 ∷ 0x923f82a4 ∷ 0xab1c5ed5
    ∷ 0xd807aa98 ∷ 0x12835b01 ∷ 0x243185be ∷ 0x550c7dc3 ∷ 0x72be5d74 ∷ 0x80deb1fe ∷ 0x9bdc06a7 ∷ 0xc19bf174
    ∷ 0xe49b69c1 ∷ 0xefbe4786 ∷ 0x0fc19dc6 ∷ 0x240ca1cc ∷ 0x2de92c6f ∷ 0x4a7484aa ∷ 0x5cb0a9dc ∷ 0x76f988da
    ∷ 0x983e5152 ∷ 0xa831c66d ∷ 0xb00327c8 ∷ 0xbf597fc7 ∷ 0xc6e00bf3 ∷ 0xd5a79147 ∷ 0x06ca6351 ∷ 0x14292967
    ∷ 0x27b70a85 ∷ 0x2e1b2138 ∷ 0x4d2c6dfc ∷ 0x53380d13 ∷ 0x650a7354 ∷ 0x766a0abb ∷ 0x81c2c92e ∷ 0x92722c85
    ∷ 0xa2bfe8a1 ∷ 0xa81a664b ∷ 0xc24b8b70 ∷ 0xc76c51a3 ∷ 0xd192e819 ∷ 0xd6990624 ∷ 0xf40e3585 ∷ 0x106aa070
    ∷ 0x19a4c116 ∷ 0x1e376c08 ∷ 0x2748774c ∷ 0x34b0bcb5 ∷ 0x391c0cb3 ∷ 0x4ed8aa4a ∷ 0x5b9cca4f ∷ 0x682e6ff3
    ∷ 0x748f82ee ∷ 0x78a5636f ∷ 0x84c87814 ∷ 0x8cc70208 ∷ 0x90befffa ∷ 0xa4506ceb ∷ 0xbef9a3f7 ∷ 0xc67178f2
    ∷ []

-- ---- 5.1.1, padding the message: "Append the bit 1 to the end of the message, followed by k zero bits, where k is the smallest, non-negative solution to the
-- equation l + 1 + k ≡ 448 mod 512. Then append the 64-bit block that is equal to the number l expressed using a binary representation." Here of a message
-- of n bytes, in bytes: the bit 1 and seven zero bits are 128, and 448 and 512 bits are 56 and 64 bytes. `replicate j 0` is j zeros.

-- so many bytes of zeros stand behind the first
abbrev pub zero_bytes : ℕ → ℕ
zero_bytes n = (119 - n % 64) % 64

unfoldable pub padding : ℕ → List ℕ
padding n = 128 ∷ (replicate (zero_bytes n) 0 ++ be 8 (8 * n % 2 ^ 64))

-- ---- 5.2.1, parsing the message: "the 512 bits of the input block may be expressed as sixteen 32-bit words"

-- the first n words of a block
unfoldable pub words_of : ℕ → List ℕ → List ℕ
words_of zero s = []
words_of (suc n) s = words_of n s ++ (word_at s (4 * n) ∷ [])

-- ---- 5.3.3, the initial hash value: "the first thirty-two bits of the fractional parts of the square roots of the first eight prime numbers"

-- the eight words of a hash value, and the "eight working variables"
pub record State : Type 0 where
  pub a : ℕ
  pub b : ℕ
  pub c : ℕ
  pub d : ℕ
  pub e : ℕ
  pub f : ℕ
  pub g : ℕ
  pub h : ℕ

unfoldable pub H0 : State
H0 =
    record { a = 0x6a09e667; b = 0xbb67ae85; c = 0x3c6ef372; d = 0xa54ff53a; e = 0x510e527f; f = 0x9b05688c; g = 0x1f83d9ab; h = 0x5be0cd19 }

-- ---- 6.2.2, "SHA-256 Hash Computation"

-- 1. "Prepare the message schedule": the word W t where 16 ≤ t, from the words before it
unfoldable pub next_word : List ℕ → ℕ → ℕ
next_word w t = σ1 (get_or w (t - 2) 0) ⊞ get_or w (t - 7) 0 ⊞ σ0 (get_or w (t - 15) 0) ⊞ get_or w (t - 16) 0

-- the sixteen words of a block, and n more
unfoldable pub extend : ℕ → List ℕ → List ℕ
extend zero w = w
extend (suc n) w = let v = extend n w in v ++ (next_word v (16 + n) ∷ [])

unfoldable pub schedule : List ℕ → List ℕ
schedule block = extend 48 (words_of 16 block)

-- 3. one of the 64 steps, with the constant k and the word w
unfoldable pub T1 : State → ℕ → ℕ → ℕ
T1 s k w = s.h ⊞ Σ1 s.e ⊞ Ch s.e s.f s.g ⊞ k ⊞ w

unfoldable pub T2 : State → ℕ
T2 s = Σ0 s.a ⊞ Maj s.a s.b s.c

unfoldable pub step : State → ℕ → ℕ → State
step s k w =
    record { a = T1 s k w ⊞ T2 s; b = s.a; c = s.b; d = s.c; e = s.d ⊞ T1 s k w; f = s.e; g = s.f; h = s.g }

-- 2. and 3. the first t steps over a schedule, from the hash value before
unfoldable pub steps : ℕ → List ℕ → State → State
steps zero w s = s
steps (suc t) w s = step (steps t w s) (get_or K t 0) (get_or w t 0)

-- 4. the next "intermediate hash value"
unfoldable pub plus : State → State → State
plus x y =
    record { a = x.a ⊞ y.a; b = x.b ⊞ y.b; c = x.c ⊞ y.c; d = x.d ⊞ y.d; e = x.e ⊞ y.e; f = x.f ⊞ y.f; g = x.g ⊞ y.g; h = x.h ⊞ y.h }

unfoldable pub compress : State → List ℕ → State
compress s block = plus (steps 64 (schedule block) s) s

-- the first n blocks, in their order
unfoldable pub blocks : ℕ → State → List ℕ → State
blocks zero s m = s
blocks (suc n) s m = blocks n (compress s (take 64 m)) (drop 64 m)

-- the hash value of a message of n bytes, of which m is left and s what the blocks before it gave
unfoldable pub finish : ℕ → State → List ℕ → State
finish n s m = blocks (length (m ++ padding n) / 64) s (m ++ padding n)

-- "the resulting 256-bit message digest of the message"
unfoldable pub digest : State → List ℕ
digest s =
    be 4 s.a ++ (be 4 s.b ++ (be 4 s.c ++ (be 4 s.d
    ++ (be 4 s.e ++ (be 4 s.f ++ (be 4 s.g ++ be 4 s.h))))))

unfoldable pub sha256 : List ℕ → List ℕ
sha256 m = digest (finish (length m) H0 m)
