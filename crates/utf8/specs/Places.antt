-- UTF-8 place by place: whether a byte may stand where it does is told by itself and the three bytes before it.
use Rattle.std.specs.Prelude.{ℕ, zero, suc, ◌+◌, ◌≤◌, ◌≡◌, Bool, true, false, cond, ◌&&◌, ◌||◌, List, ◌∷◌, length, get_or, drop, leb, ltb, eqb}
use Rattle.model.specs.Utf8.{Range, ◌to◌, within, tail, utf8}

-- one of the three bytes before, c the last of them, has a byte to come here
abbrev pub owed : ℕ → ℕ → ℕ → Bool
owed a b c = leb 0xF0 a || leb 0xE0 b || leb 0xC0 c

-- the bytes that may stand after c, where one is to come
abbrev pub second : ℕ → Range
second c =
    cond (eqb c 0xE0) (0xA0 to 0xBF)
    (cond (eqb c 0xED) (0x80 to 0x9F)
    (cond (eqb c 0xF0) (0x90 to 0xBF)
    (cond (eqb c 0xF4) (0x80 to 0x8F)
    tail)))

-- a byte with which a character begins
abbrev pub begins : ℕ → Bool
begins d = leb d 0x7F || within (0xC2 to 0xF4) d

-- no character has this byte
abbrev pub never : ℕ → Bool
never d = eqb d 0xC0 || eqb d 0xC1 || ltb 0xF4 d

-- a byte is to come after c, and this one is not among those that may
abbrev pub barred : ℕ → ℕ → Bool
barred c d =
    (eqb c 0xE0 && ltb d 0xA0) || (eqb c 0xED && ltb 0x9F d) || ((eqb c 0xF0 && ltb d 0x90) || (eqb c 0xF4 && ltb 0x8F d))

-- d may stand after a, b, c
unfoldable pub stands : ℕ → ℕ → ℕ → ℕ → Bool
stands a b c d = cond (owed a b c) (within (second c) d) (begins d)

-- a test passes at n places one after the other
unfoldable pub each : (ℕ → Bool) → ℕ → ℕ → Bool
each p zero at = true
each p (suc n) at = each p n at && p (at + n)

-- the byte after three others may stand there, at a place; past the end there are zeros
unfoldable pub stands_at : List ℕ → ℕ → Bool
stands_at s at = stands (get_or s at 0) (get_or s (at + 1) 0) (get_or s (at + 2) 0) (get_or s (at + 3) 0)

abbrev pub places : ℕ → List ℕ → ℕ → Bool
places n s at = each (stands_at s) n at

-- a stretch with three zeros in front
abbrev pub padded : List ℕ → List ℕ
padded s = 0 ∷ 0 ∷ 0 ∷ s

-- from one place a later one is reached over a whole character; the same place where none stands
pub record Reached (s : List ℕ) (at r : ℕ) : Type 0 where
  pub onward : at ≤ r
  pub inside : r ≤ length s
  pub same : utf8 (drop at s) ≡ utf8 (drop r s)
  pub stops : r ≡ at → utf8 (drop at s) ≡ false

-- a byte is ASCII, at a place; so many are
unfoldable pub plain_at : List ℕ → ℕ → Bool
plain_at s at = leb (get_or s at 0) 0x7F

abbrev pub plain : ℕ → List ℕ → ℕ → Bool
plain n s at = each (plain_at s) n at
