-- What the writers of the responses and drafts write, field by field.
use Rattle.std.specs.Prelude.{ℕ, Bool, cond, List, [], ◌∷◌, ◌++◌, length}
use Rattle.model.specs.Tlv.{le}
use Rattle.model.specs.Layouts.{end, write}
use Rattle.model.specs.Records.{Table}
use Rattle.model.specs.Commands.{info, info_inner, info_inner_fields, key_registration_data, signed_data, name_pairs, name_fields}
use Rattle.params.specs.declared.lent.Numbers.{Numbers}

-- the value of AUTHENTICATOR_INFO, and GetInfo's response
unfoldable pub info_inside : List ℕ → List ℕ → List ℕ
info_inside a m = write info_inner (info_inner_fields a m)

unfoldable pub info_written : List ℕ → List ℕ → List ℕ
info_written a m = write info (le 2 0 ∷ (1 ∷ []) ∷ info_inner_fields a m)

-- version, mode, signature algorithm: the first five bytes of both kinds of ASSERTION_INFO
abbrev pub info_start : Numbers → ℕ → List ℕ
info_start n mode = le 2 n.version ++ (mode ∷ le 2 n.signature_algorithm)

-- KRD
unfoldable pub krd : List ℕ → Numbers → List ℕ → List ℕ → List ℕ → List ℕ
krd a n challenge k public_key =
    write (key_registration_data end)
    (a ∷ (info_start n 0x01 ++ le 2 n.key_algorithm) ∷ challenge ∷ k ∷ (le 4 0 ++ le 4 0) ∷ public_key ∷ [])

-- SIGNED_DATA
unfoldable pub signed_draft : Bool → List ℕ → Numbers → List ℕ → List ℕ → List ℕ → List ℕ → ℕ → List ℕ
signed_draft content a n nonce challenge hash k count =
    write (signed_data content end)
    (a ∷ info_start n (cond content 0x02 0x01) ∷ nonce ∷ challenge ∷ cond content hash [] ∷ k ∷ le 4 count ∷ [])

-- "a USERNAME_AND_KEYHANDLE (USERNAME, KEYHANDLE) for each"
unfoldable pub pairs_of : Table → List ℕ
pairs_of rs = write (name_pairs (length rs)) (name_fields rs)
