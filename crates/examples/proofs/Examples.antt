-- P1 to P9 of document 01, "Dead heats and edges", as one table that one statement checks, and that section's last line as another. The caller, the
-- records and the longest answers are in `model`'s Computing.
-- Assumes nothing.
use mathlib.Core.Path.{◌≡◌, refl}
use mathlib.Core.List.{List, [], ◌∷◌, map}
use mathlib.Core.Option.{some}
use Prim.Native.Nat.{ℕ, ◌+◌}
use lib.ListN.{length}
use Rattle.model.specs.Records.{Table}
use Rattle.model.specs.Commands.{Result, refused, gave, Answer, response, draft, outcome}
use Rattle.model.specs.Traces.{Form, handed}
use Rattle.model.proofs.Computing.{computing, hashing, answered, each-form, token, holder, lent, ann_then_bo, standing, sign_command, register_command, info, krd, ann_then_bo_listed}

record Example : Type 0 where
  command : List ℕ
  table : Table
  expected : Result Answer

abbrev example : List ℕ → Table → Result Answer → Example
example s t r = record { command = s; table = t; expected = r }

-- the outputs are as short as they may be
abbrev run : Form → Example → Result Answer
run f e =
    answered (outcome (record { command = e.command; lent = lent; output = 4096; table_output = some 6912 }) (handed f e.table))

abbrev Computed : List Example → Type 0
Computed es = (f : Form) → map (run f) es ≡ map (λ e. e.expected) es

-- ---- P1 to P9

abbrev info_invalid : List ℕ
info_invalid = 0x01 ∷ 0x36 ∷ 0x06 ∷ 0x00 ∷ 0x08 ∷ 0x28 ∷ 0x02 ∷ 0x00 ∷ 0x08 ∷ 0x00 ∷ []

-- the command of P8 and P9
abbrev sign_short : List ℕ
sign_short =
    0x03 ∷ 0x34 ∷ 0x0F ∷ 0x00 ∷ 0x0D ∷ 0x28 ∷ 0x01 ∷ 0x00 ∷ 0x00 ∷ 0x0A ∷ 0x2E ∷ 0x01 ∷ 0x00 ∷ 0xAA ∷ 0x05 ∷ 0x28 ∷ 0x01 ∷ 0x00
    ∷ 0xAA ∷ []

abbrev sign_invalid : Result Answer
sign_invalid = gave (response (0x03 ∷ 0x36 ∷ 0x06 ∷ 0x00 ∷ 0x08 ∷ 0x28 ∷ 0x02 ∷ 0x00 ∷ 0x08 ∷ 0x00 ∷ []))

abbrev p1_to_p9 : List Example
p1_to_p9 =
    -- P1, P2
    example (0x01 ∷ 0x34 ∷ 0x00 ∷ 0x00 ∷ []) [] (gave (response info))
    ∷ example (0x01 ∷ 0x34 ∷ 0x04 ∷ 0x00 ∷ 0xFF ∷ 0x0F ∷ 0x00 ∷ 0x00 ∷ []) [] (gave (response info))
    -- P3, P4
    ∷ example (0x01 ∷ 0x34 ∷ 0x04 ∷ 0x00 ∷ 0xFF ∷ 0x2F ∷ 0x00 ∷ 0x00 ∷ []) [] (gave (response info_invalid))
    ∷ example (0x01 ∷ 0x34 ∷ 0x01 ∷ 0x00 ∷ 0x00 ∷ []) [] (gave (response info_invalid))
    -- P5, both
    ∷ example (0x05 ∷ 0x34 ∷ 0x00 ∷ 0x00 ∷ []) [] (refused 3)
    ∷ example (0x01 ∷ 0x34 ∷ 0x00 ∷ []) [] (refused 3)
    -- P6
    ∷ example (0x06 ∷ 0x34 ∷ 0x05 ∷ 0x00 ∷ 0x0D ∷ 0x28 ∷ 0x01 ∷ 0x00 ∷ 0x00 ∷ []) []
    (gave (response (0x06 ∷ 0x36 ∷ 0x06 ∷ 0x00 ∷ 0x08 ∷ 0x28 ∷ 0x02 ∷ 0x00 ∷ 0x06 ∷ 0x00 ∷ [])))
    -- P7, P8, P9, which "become 0x08 cases" with request A4: their access token has one byte
    ∷ example
    (0x04 ∷ 0x34 ∷ 0x0E ∷ 0x00 ∷ 0x0D ∷ 0x28 ∷ 0x01 ∷ 0x00 ∷ 0x00 ∷ 0x09 ∷ 0x2E ∷ 0x00 ∷ 0x00 ∷ 0x05 ∷ 0x28 ∷ 0x01 ∷ 0x00 ∷ 0xAA ∷ []) []
    (gave (response (0x04 ∷ 0x36 ∷ 0x06 ∷ 0x00 ∷ 0x08 ∷ 0x28 ∷ 0x02 ∷ 0x00 ∷ 0x08 ∷ 0x00 ∷ [])))
    ∷ example sign_short [] sign_invalid
    ∷ example sign_short ann_then_bo sign_invalid
    -- what they said, with an access token of 32 bytes
    ∷ example (0x04 ∷ 0x34 ∷ 0x2D ∷ 0x00 ∷ 0x0D ∷ 0x28 ∷ 0x01 ∷ 0x00 ∷ 0x00 ∷ 0x09 ∷ 0x2E ∷ 0x00 ∷ 0x00 ∷ 0x05 ∷ 0x28 ∷ 0x20 ∷ 0x00 ∷ token) []
    (gave (response (0x04 ∷ 0x36 ∷ 0x06 ∷ 0x00 ∷ 0x08 ∷ 0x28 ∷ 0x02 ∷ 0x00 ∷ 0x00 ∷ 0x00 ∷ [])))
    ∷ example sign_command [] (gave (response (0x03 ∷ 0x36 ∷ 0x06 ∷ 0x00 ∷ 0x08 ∷ 0x28 ∷ 0x02 ∷ 0x00 ∷ 0x02 ∷ 0x00 ∷ [])))
    ∷ example sign_command ann_then_bo (gave (response ann_then_bo_listed))
    ∷ []

pub examples : Computed p1_to_p9
unfolding computing hashing
examples = each-form _ refl refl

-- the lengths that P1 says, and P9 did
pub p_sizes : (length info ≡ 94) × (length ann_then_bo_listed ≡ 103)
p_sizes = (refl, refl)

-- ---- "Username 128 passes, 129 is 0x08; level 8 passes, level 9 is 0x08; the eighth own record passes, the ninth is 0x0F"

abbrev not_registered : ℕ → Result Answer
not_registered n = gave (response (0x02 ∷ 0x36 ∷ 0x06 ∷ 0x00 ∷ 0x08 ∷ 0x28 ∷ 0x02 ∷ 0x00 ∷ n ∷ 0x00 ∷ []))

-- the command is level 1, so the six composites in which this stretch of n bytes stands are levels 2 to 7, and its first TLV is level 8
abbrev at_level8 : ℕ → List ℕ → List ℕ
at_level8 n s =
    0x01 ∷ 0x34 ∷ (0x18 + n) ∷ 0x00 ∷ 0xFF ∷ 0x1F ∷ (0x14 + n) ∷ 0x00 ∷ 0xFF ∷ 0x1F ∷ (0x10 + n) ∷ 0x00 ∷ 0xFF ∷ 0x1F ∷ (0x0C + n) ∷ 0x00
    ∷ 0xFF ∷ 0x1F ∷ (0x08 + n) ∷ 0x00 ∷ 0xFF ∷ 0x1F ∷ (0x04 + n) ∷ 0x00 ∷ 0xFF ∷ 0x1F ∷ n ∷ 0x00 ∷ s

abbrev edges : List Example
edges =
    example (register_command 0xB8 128) [] (gave (draft krd))
    ∷ example (register_command 0xB9 129) [] (not_registered 0x08)
    ∷ example (at_level8 4 (0xFF ∷ 0x1F ∷ 0x00 ∷ 0x00 ∷ [])) [] (gave (response info))
    ∷ example (at_level8 4 (0xFF ∷ 0x0F ∷ 0x00 ∷ 0x00 ∷ [])) [] (gave (response info))
    ∷ example (at_level8 8 (0xFF ∷ 0x1F ∷ 0x04 ∷ 0x00 ∷ 0xFF ∷ 0x1F ∷ 0x00 ∷ 0x00 ∷ [])) [] (gave (response info_invalid))
    ∷ example (at_level8 8 (0xFF ∷ 0x1F ∷ 0x04 ∷ 0x00 ∷ 0xFF ∷ 0x0F ∷ 0x00 ∷ 0x00 ∷ [])) [] (gave (response info_invalid))
    ∷ example (register_command 0x3A 2) (standing 0 holder 7) (gave (draft krd))
    ∷ example (register_command 0x3A 2) (standing 0 holder 8) (not_registered 0x0F)
    ∷ []

pub edge_examples : Computed edges
unfolding computing hashing
edge_examples = each-form _ refl refl
