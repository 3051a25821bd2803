-- RFC 3629, UTF-8. Words in quotes are the RFC's.
use Rattle.std.specs.Prelude.{ℕ, ◌+◌, ◌/◌, ◌%◌, Bool, true, false, not, cond, ◌&&◌, List, [], ◌∷◌, ◌++◌, drop, leb}
use Rattle.std.proofs.Math.Option.{Option, none, some, map}
use Rattle.model.specs.Lists.{select, first}

-- ---- section 4, "Syntax of UTF-8 Byte Sequences"

-- "%xC2-DF": the bytes from one to another
pub record Range : Type 0 where
  pub low : ℕ
  pub high : ℕ

infix 60 ◌to◌
abbrev pub ◌to◌ : ℕ → ℕ → Range
l to h = record { low = l; high = h }

abbrev pub within : Range → ℕ → Bool
within r b = leb r.low b && leb b r.high

-- "UTF8-tail = %x80-BF"
abbrev pub tail : Range
tail = 0x80 to 0xBF

-- "UTF8-char = UTF8-1 / UTF8-2 / UTF8-3 / UTF8-4": the alternatives of each, byte after byte
abbrev pub utf8_char : List (List Range)
utf8_char =
    ((0x00 to 0x7F) ∷ [])
    ∷ ((0xC2 to 0xDF) ∷ tail ∷ [])
    ∷ ((0xE0 to 0xE0) ∷ (0xA0 to 0xBF) ∷ tail ∷ []) ∷ ((0xE1 to 0xEC) ∷ tail ∷ tail ∷ [])
    ∷ ((0xED to 0xED) ∷ (0x80 to 0x9F) ∷ tail ∷ []) ∷ ((0xEE to 0xEF) ∷ tail ∷ tail ∷ [])
    ∷ ((0xF0 to 0xF0) ∷ (0x90 to 0xBF) ∷ tail ∷ tail ∷ []) ∷ ((0xF1 to 0xF3) ∷ tail ∷ tail ∷ tail ∷ [])
    ∷ ((0xF4 to 0xF4) ∷ (0x80 to 0x8F) ∷ tail ∷ tail ∷ [])
    ∷ []

abbrev pub begins : ℕ → List Range → Bool
begins a [] = false
begins a (r ∷ rs) = within r a

-- what follows a first byte in the alternative that it begins, if it begins one; no two begin with the same byte
unfoldable pub follow : ℕ → Option (List Range)
follow a = map (drop 1) (first (select (begins a) utf8_char))

-- "UTF8-octets = *( UTF8-char )", where the character that has begun still has these bytes to come
unfoldable pub utf8_after : Option (List Range) → List ℕ → Bool
utf8_after none [] = false
utf8_after none (b ∷ s) = false
utf8_after (some []) [] = true
utf8_after (some []) (a ∷ s) = utf8_after (follow a) s
utf8_after (some (r ∷ rs)) [] = false
utf8_after (some (r ∷ rs)) (b ∷ s) = within r b && utf8_after (some rs) s

abbrev pub utf8 : List ℕ → Bool
utf8 s = utf8_after (some []) s

-- ---- section 3, "UTF-8 definition", which the laws prove to be the same

-- "characters from the U+0000..U+10FFFF range"; "prohibits encoding character numbers between U+D800 and U+DFFF"
unfoldable pub scalar : ℕ → Bool
scalar v = leb v 0x10FFFF && not (within (0xD800 to 0xDFFF) v)

-- "UTF-8 octet sequence", by its table: "0xxxxxxx", "110xxxxx 10xxxxxx", "1110xxxx 10xxxxxx 10xxxxxx", "11110xxx 10xxxxxx 10xxxxxx 10xxxxxx", by the "Char. number range"
unfoldable pub octets : ℕ → List ℕ
octets v =
    cond (leb v 0x7F) (v ∷ [])
    (cond (leb v 0x7FF) ((0xC0 + v / 64) ∷ (0x80 + v % 64) ∷ [])
    (cond (leb v 0xFFFF) ((0xE0 + v / 4096) ∷ (0x80 + v / 64 % 64) ∷ (0x80 + v % 64) ∷ [])
    ((0xF0 + v / 262144) ∷ (0x80 + v / 4096 % 64) ∷ (0x80 + v / 64 % 64) ∷ (0x80 + v % 64) ∷ [])))

-- those of characters one after another
unfoldable pub spelt : List ℕ → List ℕ
spelt [] = []
spelt (v ∷ vs) = octets v ++ spelt vs
