-- Document 01, "Read a response".
use Rattle.std.specs.Prelude.{ℕ, zero, suc, ◌+◌, ◌-◌, Bool, true, false, not, cond, ◌&&◌, ◌||◌, List, [], ◌∷◌, ◌++◌, map, length, take, drop, eqb}
use Rattle.std.proofs.Math.Option.{Option, none, some, get_or}
use Rattle.model.specs.Lists.{any, select, first, distinct}
use Rattle.model.specs.Tlv.{num, Tlv, tlvs, Field, tag_of, key_handle, ok, signature, certificate, full, surrogate, composite, register, sign, kinds, response_tag, krd_tag, signed_tag, assertion_tag, reg_assertion_tag, auth_assertion_tag}
use Rattle.model.specs.Layouts.{Layout, end, field, group, fields, reads}
use Rattle.model.specs.Commands.{judge, check, Result, refused, gave, status_only, info, name_list, key_registration_data, signed_data}

-- ---- the responses that "some allowed inputs make a command or completion write"

-- what completion writes: response, status, AUTHENTICATOR_ASSERTION, and in the assertion the draft and its signature
abbrev pub asserted : ℕ → ℕ → Layout → Layout
asserted outer assertion inner = group outer (field ok (group assertion_tag (group assertion inner end) end)) end

abbrev pub registered : ℕ → List Field → Layout
registered type parts = asserted (response_tag register) reg_assertion_tag (key_registration_data (group type (fields parts) end))

abbrev pub signed : Bool → Layout
signed content = asserted (response_tag sign) auth_assertion_tag (signed_data content (field signature end))

-- names are listed for two records or more; at most 8 records have one mixed token
abbrev pub list_lengths : List ℕ
list_lengths = 2 ∷ 3 ∷ 4 ∷ 5 ∷ 6 ∷ 7 ∷ 8 ∷ []

abbrev pub responses : List Layout
responses =
    map status_only kinds
    ++ (info ∷ registered full (signature ∷ certificate ∷ []) ∷ registered surrogate (signature ∷ []) ∷ signed true ∷ signed false
    ∷ [])
    ++ map name_list list_lengths

-- ---- the TLVs of a response: "tag, value's place and value's length", a place counted from the response's first byte

pub record Part : Type 0 where
  pub tag : ℕ
  pub place : ℕ
  pub size : ℕ

-- "AUTHENTICATOR_ASSERTION does hold one"
abbrev pub holds : ℕ → Bool
holds t = composite t || eqb t assertion_tag

-- each TLV of a run that starts at a place, followed by those in its value
abbrev pub spread : (ℕ → List ℕ → List Part) → ℕ → List Tlv → List Part
spread inner at [] = []
spread inner at (t ∷ ts) =
    (record { tag = t.tag; place = at + 4; size = length t.value } ∷ cond (holds t.tag) (inner (at + 4) t.value) [])
    ++ spread inner (at + 4 + length t.value) ts

unfoldable pub parts_at : ℕ → ℕ → List ℕ → List Part
parts_at zero at s = []
parts_at (suc n) at s = spread (parts_at n) at (get_or (tlvs s) [])

-- five levels: response, AUTHENTICATOR_ASSERTION, assertion, signed structure, field
unfoldable pub parts : List ℕ → List Part
parts s = parts_at 5 0 s

-- "each TLV that holds no other", in order
unfoldable pub field_parts : List ℕ → List Part
field_parts s = select (λ p. not (holds p.tag)) (parts s)

-- the bytes of a part's value
abbrev pub cut : List ℕ → Part → List ℕ
cut s p = take p.size (drop p.place s)

abbrev pub is_handle : ℕ → Bool
is_handle t = eqb t (tag_of key_handle)

-- listed names have different KeyIDs, as their records have
abbrev pub listed_keys : List ℕ → List (List ℕ)
listed_keys s = map (cut s) (select (λ p. is_handle p.tag) (field_parts s))

unfoldable pub is_response : List ℕ → Bool
is_response s = any (λ l. reads l s) responses && distinct (listed_keys s)

-- "the signed structure", KRD or SIGNED_DATA with its four header bytes; "Without a signed structure the stretch is empty"
abbrev pub is_signed : ℕ → Bool
is_signed t = eqb t krd_tag || eqb t signed_tag

pub record Stretch : Type 0 where
  pub place : ℕ
  pub size : ℕ

abbrev pub stretch : Option Part → Stretch
stretch none = record { place = 0; size = 0 }
stretch (some p) = record { place = p.place - 4; size = p.size + 4 }

unfoldable pub signed_part : List ℕ → Stretch
signed_part s = stretch (first (select (λ p. is_signed p.tag) (parts s)))

-- what the two calls give: the signed stretch; "the response tag, the status and, in order," the fields
pub record Reading : Type 0 where
  pub signed : Stretch
  pub tag : ℕ
  pub status : ℕ
  pub fields : List Part

unfoldable pub read_response : List ℕ → Result Reading
read_response s =
    judge (check 5 (not (is_response s)) ∷ []) refused
    (gave
    (record { signed = signed_part s; tag = num (take 2 s); status = num (take 2 (drop 8 s)); fields = field_parts s }))
