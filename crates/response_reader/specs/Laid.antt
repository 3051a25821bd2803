-- Where the fields stand in a stretch that a layout reads: each after the one before it. A field that has only one length has that, so that most
-- places are numbers and not sums of what was read.
use Rattle.std.specs.Prelude.{◌≡◌, ℕ, ◌+◌, cond, List, [], ◌∷◌, ◌++◌, eqb}
use Rattle.model.specs.Tlv.{Field, rule_of, tag_of, ok}
use Rattle.model.specs.Layouts.{Layout, end, field, group}
use Rattle.model.specs.Commands.{info}
use Rattle.model.specs.Reader.{Part}
use Rattle.tlv.specs.Numbers.{num_at}
use Rattle.response_reader.specs.Met.{part_at}

-- the length of a field whose header stands at a place
abbrev pub size_at : Field → List ℕ → ℕ → ℕ
size_at f s at = cond (eqb (rule_of f).least (rule_of f).most) (rule_of f).least (num_at 2 s (at + 2))

-- the fields of a layout from a place on
abbrev pub fields_from : Layout → List ℕ → ℕ → List Part
fields_from end s at = []
fields_from (field f l) s at = part_at (tag_of f) (at + 4) (size_at f s at) ∷ fields_from l s (at + 4 + size_at f s at)
fields_from (group t inner l) s at = fields_from inner s (at + 4) ++ fields_from l s (at + 4 + num_at 2 s (at + 2))

-- the lengths in a stretch are those that the layout has, from a place up to another
abbrev pub Lies : Layout → List ℕ → (at to : ℕ) → Type 0
Lies end s at to = at ≡ to
Lies (field f l) s at to = (num_at 2 s (at + 2) ≡ size_at f s at) × Lies l s (at + 4 + size_at f s at) to
Lies (group t inner l) s at to =
    let next = at + 4 + num_at 2 s (at + 2) in
    Lies inner s (at + 4) next × Lies l s next to

-- the first field of every response
abbrev pub status_row : Part
status_row = part_at (tag_of ok) 8 2

-- every field of GetInfo's response has one length, and so no byte is looked at
abbrev pub info_rows : List Part
info_rows = fields_from info [] 0
