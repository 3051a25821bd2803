-- Whether a child of a command is taken.
use Rattle.std.specs.Prelude.{ℕ, Bool, cond, ◌&&◌, ltb, eqb}
use Rattle.model.specs.Tlv as model
use Rattle.model.specs.Tlv.{Tlv, child_ok, skippable, fits, listed, fields_of}
use Rattle.params.specs.Slots.{slot_field}

-- a child obeys its field's rule or may be skipped
unfoldable pub child_passes : model.Kind → Tlv → Bool
child_passes k c = child_ok c (listed (fields_of k) c.tag)

-- one more child of a slot that was given n times and may be given so many times: one that is never listed may be skipped; any other is not
-- too many, and obeys the rule of the slot's field
unfoldable pub child_taken : (slot most n : ℕ) → Tlv → Bool
child_taken slot most n c = cond (eqb most 0) (skippable c) (ltb n most && fits (slot_field slot) c.value)
