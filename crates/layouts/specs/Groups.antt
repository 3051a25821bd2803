-- What the groups hold that may be followed by something, by the layouts of `model`.
use Rattle.std.specs.Prelude.{ℕ, Bool, true, false, ◌||◌, List, [], ◌∷◌}
use Rattle.model.specs.Tlv.{nonce, challenge_hash, content_hash, key_id, new_count, signed_tag}
use Rattle.model.specs.Layouts.{Layout, end, field, group, fields, reads}
use Rattle.model.specs.Commands.{key_registration_data, signed_data}
use Rattle.layouts.specs.Places.{after_tlv}

-- the inside of a layout that is one group
abbrev inside_in : Layout → Layout
inside_in end = end
inside_in (field f l) = end
inside_in (group t inner l) = inner

abbrev pub krd_fields : Layout
krd_fields = inside_in (key_registration_data end)

-- with content or without
abbrev pub signed_fields : Bool → Layout
signed_fields content = inside_in (signed_data content end)

-- those that stand after ASSERTION_INFO
abbrev pub signed_rest : Bool → Layout
signed_rest content = fields (nonce ∷ challenge_hash ∷ content_hash content ∷ key_id ∷ new_count ∷ [])

-- one of the two layouts reads what SIGNED_DATA holds
abbrev pub is_signed_data : List ℕ → Bool
is_signed_data v = reads (signed_fields true) v || reads (signed_fields false) v

-- the place after SIGNED_DATA, whichever of the two it is
abbrev pub after_signed : List ℕ → ℕ → ℕ
after_signed s at = after_tlv signed_tag is_signed_data s at
