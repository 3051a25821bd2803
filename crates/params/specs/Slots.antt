-- The fields that commands list, numbered, and how often each command must and may be given each.
use Rattle.std.specs.Prelude.{ℕ, suc, Bool, true, cond, ◌&&◌, List, [], ◌∷◌, ◌++◌, map, get_or, leb, eqb}
use Rattle.std.proofs.Math.Option.{Option, none, some}
use Rattle.model.specs.Tlv as model
use Rattle.model.specs.Tlv.{tag_of, fields_of, listed}
use Rattle.params.specs.declared.kinds.Listing.{Listing}

-- in an order that every command's list keeps
abbrev pub command_fields : List model.Field
command_fields =
    model.index ∷ model.app_id ∷ model.challenge_hash ∷ model.username ∷ model.attestation_type ∷ model.transaction_content
    ∷ model.key_id_or_none ∷ model.access_token ∷ model.user_verify_token ∷ model.key_handle ∷ []

-- how many slots there are
abbrev pub slots : ℕ
slots = 10

-- the field of a slot
abbrev pub slot_field : ℕ → model.Field
slot_field slot = get_or command_fields slot model.key_handle

-- the place of the first field with a tag; past the last where there is none
abbrev pub place_of : ℕ → List model.Field → ℕ
place_of tag [] = 0
place_of tag (f ∷ fs) = cond (eqb (tag_of f) tag) 0 (suc (place_of tag fs))

-- the slot of the field with a tag; past the last for any other tag
unfoldable pub slot_of : ℕ → ℕ
slot_of tag = place_of tag command_fields

-- how often a command must and may be given a field; never, if it does not list it
abbrev pub least_in : Option model.Listed → ℕ
least_in none = 0
least_in (some l) = l.least

abbrev pub most_in : Option model.Listed → ℕ
most_in none = 0
most_in (some l) = l.most

unfoldable pub least_for : model.Kind → model.Field → ℕ
least_for k f = least_in (listed (fields_of k) (tag_of f))

unfoldable pub most_for : model.Kind → model.Field → ℕ
most_for k f = most_in (listed (fields_of k) (tag_of f))

-- a number of each slot's field, and last 0, for a tag that has no slot
abbrev pub by_slot : (model.Field → ℕ) → List ℕ
by_slot n = map n command_fields ++ (0 ∷ [])

-- how often a command must and may be given each
abbrev pub listing_for : model.Kind → Listing
listing_for k = record { least = by_slot (least_for k); most = by_slot (most_for k) }

-- each slot was given as often as it must be
unfoldable pub enough : (least times : List ℕ) → Bool
enough [] ns = true
enough (m ∷ ms) [] = true
enough (m ∷ ms) (n ∷ ns) = leb m n && enough ms ns
