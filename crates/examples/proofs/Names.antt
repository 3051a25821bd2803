-- Request A1 of document 02: names at each edge of RFC 3629's grammar, and what Register, a table and the reader make of a name.
-- Assumes nothing.
use mathlib.Core.Path.{◌≡◌, refl}
use mathlib.Core.Bool.{true, false}
use mathlib.Core.List.{List, [], ◌∷◌}
use mathlib.Core.Option.{none, some}
use Prim.Native.Nat.{ℕ}
use lib.ListN.{replicate}
use Rattle.model.specs.Lists.{select}
use Rattle.model.specs.Utf8.{within, tail, utf8, octets, spelt}
use Rattle.model.specs.Tlv.{Tlv, tlv, bytes}
use Rattle.model.specs.Commands.{Result, refused, gave}
use Rattle.model.specs.Reader.{read_response}
use Rattle.model.specs.Traces.{itself, in_stored_form}
use Rattle.model.proofs.Computing.{computing, lent, stands}
use Rattle.examples.proofs.Limits.{Line, ◌gives◌, Holds, holds, call, written, get_info, register, with, lent_of}
use Rattle.examples.proofs.LimitsRead.{reading}

-- ---- section 4: the first and the last of each alternative, and what stands one before and one behind them

-- a byte and bytes
abbrev well_formed : List (List ℕ)
well_formed =
    []
    ∷ (0x00 ∷ []) ∷ (0x7F ∷ [])
    ∷ (0xC2 ∷ 0x80 ∷ []) ∷ (0xDF ∷ 0xBF ∷ [])
    ∷ (0xE0 ∷ 0xA0 ∷ 0x80 ∷ []) ∷ (0xE0 ∷ 0xBF ∷ 0xBF ∷ []) ∷ (0xE1 ∷ 0x80 ∷ 0x80 ∷ []) ∷ (0xEC ∷ 0xBF ∷ 0xBF ∷ [])
    ∷ (0xED ∷ 0x80 ∷ 0x80 ∷ []) ∷ (0xED ∷ 0x9F ∷ 0xBF ∷ []) ∷ (0xEE ∷ 0x80 ∷ 0x80 ∷ []) ∷ (0xEF ∷ 0xBF ∷ 0xBF ∷ [])
    ∷ (0xF0 ∷ 0x90 ∷ 0x80 ∷ 0x80 ∷ []) ∷ (0xF0 ∷ 0xBF ∷ 0xBF ∷ 0xBF ∷ []) ∷ (0xF1 ∷ 0x80 ∷ 0x80 ∷ 0x80 ∷ [])
    ∷ (0xF3 ∷ 0xBF ∷ 0xBF ∷ 0xBF ∷ []) ∷ (0xF4 ∷ 0x80 ∷ 0x80 ∷ 0x80 ∷ []) ∷ (0xF4 ∷ 0x8F ∷ 0xBF ∷ 0xBF ∷ [])
    ∷ []

abbrev ill_formed : List (List ℕ)
ill_formed =
    (0x80 ∷ []) ∷ (0xBF ∷ []) ∷ (0x41 ∷ 0x80 ∷ [])
    ∷ (0xC0 ∷ 0x80 ∷ []) ∷ (0xC1 ∷ 0xBF ∷ []) ∷ (0xC2 ∷ 0x7F ∷ []) ∷ (0xDF ∷ 0xC0 ∷ []) ∷ (0xC2 ∷ []) ∷ (0xC2 ∷ 0x80 ∷ 0x80 ∷ [])
    ∷ (0xE0 ∷ 0x9F ∷ 0xBF ∷ []) ∷ (0xE0 ∷ 0xC0 ∷ 0x80 ∷ []) ∷ (0xE1 ∷ 0x7F ∷ 0x80 ∷ []) ∷ (0xEC ∷ 0xC0 ∷ 0x80 ∷ []) ∷ (0xE1 ∷ 0x80 ∷ 0x7F ∷ [])
    ∷ (0xED ∷ 0x7F ∷ 0x80 ∷ []) ∷ (0xED ∷ 0xA0 ∷ 0x80 ∷ []) ∷ (0xED ∷ 0xBF ∷ 0xBF ∷ []) ∷ (0xEF ∷ 0xBF ∷ 0xC0 ∷ []) ∷ (0xEF ∷ 0xBF ∷ [])
    ∷ (0xF0 ∷ 0x8F ∷ 0xBF ∷ 0xBF ∷ []) ∷ (0xF0 ∷ 0xC0 ∷ 0x80 ∷ 0x80 ∷ []) ∷ (0xF1 ∷ 0x80 ∷ 0x80 ∷ 0x7F ∷ []) ∷ (0xF3 ∷ 0xBF ∷ 0xBF ∷ [])
    ∷ (0xF4 ∷ 0x90 ∷ 0x80 ∷ 0x80 ∷ []) ∷ (0xF4 ∷ 0x7F ∷ 0x80 ∷ 0x80 ∷ []) ∷ (0xF5 ∷ 0x80 ∷ 0x80 ∷ 0x80 ∷ []) ∷ (0xFF ∷ [])
    ∷ []

pub edges : (select utf8 well_formed ≡ well_formed) × (select utf8 ill_formed ≡ [])
unfolding computing
edges = (refl, refl)

-- ---- what the laws ask is needed: C3 A9 is a letter, and neither of its bytes is one. So a front is well formed only if what follows is (utf8-front),
-- and what follows only if the front is (joined); and of 80 41, which is not well formed, the part before 41 is not either, though no tail follows (cut)

pub apart : (utf8 (0xC3 ∷ 0xA9 ∷ []) ≡ true) × (utf8 (0xC3 ∷ []) ≡ false) × (utf8 (0xA9 ∷ []) ≡ false)
unfolding computing
apart = (refl, refl, refl)

pub cut_of_none : (utf8 (0x80 ∷ 0x41 ∷ []) ≡ false) × (utf8 (0x80 ∷ []) ≡ false) × (within tail 0x41 ≡ false)
unfolding computing
cut_of_none = (refl, refl, refl)

-- ---- section 7: its examples, and the characters that it says they are

pub section_7 : (spelt (0x41 ∷ 0x2262 ∷ 0x0391 ∷ 0x2E ∷ []) ≡ 0x41 ∷ 0xE2 ∷ 0x89 ∷ 0xA2 ∷ 0xCE ∷ 0x91 ∷ 0x2E ∷ [])
    × (spelt (0xD55C ∷ 0xAD6D ∷ 0xC5B4 ∷ []) ≡ 0xED ∷ 0x95 ∷ 0x9C ∷ 0xEA ∷ 0xB5 ∷ 0xAD ∷ 0xEC ∷ 0x96 ∷ 0xB4 ∷ [])
    × (spelt (0x65E5 ∷ 0x672C ∷ 0x8A9E ∷ []) ≡ 0xE6 ∷ 0x97 ∷ 0xA5 ∷ 0xE6 ∷ 0x9C ∷ 0xAC ∷ 0xE8 ∷ 0xAA ∷ 0x9E ∷ [])
    × (spelt (0xFEFF ∷ 0x233B4 ∷ []) ≡ 0xEF ∷ 0xBB ∷ 0xBF ∷ 0xF0 ∷ 0xA3 ∷ 0x8E ∷ 0xB4 ∷ [])
unfolding computing octets spelt
section_7 = (refl, refl, refl, refl)

-- ---- what is made of a name

-- a list of names with it, and with Bo's behind it
abbrev pair : List ℕ → ℕ → Tlv
pair name k = tlv 0x3802 (bytes (tlv 0x2806 name ∷ tlv 0x2801 (replicate 32 k) ∷ []))

abbrev listing : List ℕ → List ℕ
listing name = bytes (tlv 0x3603 (bytes (tlv 0x2808 (0x00 ∷ 0x00 ∷ []) ∷ pair name 0xAA ∷ pair (0x42 ∷ 0x6F ∷ []) 0xBB ∷ [])) ∷ [])

abbrev read : {A : Type 0} → Result A → ℕ
read (refused n) = n
read (gave a) = 0

-- Register by a user who is verified, and by one who is not; GetInfo on a table that has it, by value and stored; the reader's refusal, 0 for none
abbrev made : List ℕ → List ℕ
made name =
    let asked = written (with register 1 (tlv 0x2806 name)) in
    call itself 4096 none [] lent asked
    ∷ call itself 4096 none [] (lent_of 9 0 0 0 15 2 0 32 1 8) asked
    ∷ call itself 4096 none (stands 0xAA name ∷ []) lent (written get_info)
    ∷ call in_stored_form 4096 (some 6912) (stands 0xAA name ∷ []) lent (written get_info)
    ∷ read (read_response (listing name))
    ∷ []

-- José; the same cut inside its last letter; each of the buyer's and the standard's bad ones behind a letter
abbrev names : List Line
names =
    made (0x4A ∷ 0x6F ∷ 0x73 ∷ 0xC3 ∷ 0xA9 ∷ []) gives (200 ∷ 0x03 ∷ 300 ∷ 300 ∷ 0 ∷ [])
    ∷ made (0x4A ∷ 0x6F ∷ 0x73 ∷ 0xC3 ∷ []) gives (0x08 ∷ 0x08 ∷ 102 ∷ 102 ∷ 5 ∷ [])
    ∷ made (0x4A ∷ 0x80 ∷ []) gives (0x08 ∷ 0x08 ∷ 102 ∷ 102 ∷ 5 ∷ [])
    ∷ made (0x4A ∷ 0xC0 ∷ 0x80 ∷ []) gives (0x08 ∷ 0x08 ∷ 102 ∷ 102 ∷ 5 ∷ [])
    ∷ made (0x4A ∷ 0xED ∷ 0xA0 ∷ 0x80 ∷ []) gives (0x08 ∷ 0x08 ∷ 102 ∷ 102 ∷ 5 ∷ [])
    ∷ made (0x4A ∷ 0xF4 ∷ 0x90 ∷ 0x80 ∷ 0x80 ∷ []) gives (0x08 ∷ 0x08 ∷ 102 ∷ 102 ∷ 5 ∷ [])
    ∷ []

pub names_made : Holds names
unfolding reading
names_made = holds names refl
