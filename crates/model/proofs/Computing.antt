-- For examples that are computed: to unfold `computing` is to unfold all that a call, a trace and a writer compute with but for hashes, which `hashing` unfolds; and the
-- caller, commands and answers that several tables of examples share, byte by byte.
-- Assumes nothing.
use Prim.Native.Nat.{ℕ, zero, suc, ◌+◌}
use mathlib.Core.List.{List, [], ◌∷◌, ◌++◌}
use lib.ListN.{replicate}
use Rattle.model.specs.Lists.{eq_bytes}
use Rattle.model.specs.Utf8.{follow, utf8_after}
use Rattle.model.specs.Sha256.{be, ◌⊞◌, rotr, Ch, Maj, Σ0, Σ1, σ0, σ1, K, padding, words_of, H0, next_word, extend, schedule, T1, T2, step, steps, plus, compress, blocks, finish, digest, sha256}
use Rattle.model.specs.Tlv.{num, le, bytes, tlvs_past, well_formed, fits, kind_of, children_ok, children, broken, fields_in, field_in}
use Rattle.model.specs.Layouts.{fill, write, matches}
use Rattle.model.specs.Records.{Record, Table, record_ok, own, table_ok, encode, stored_as, decode}
use Rattle.model.specs.Commands.{Lent, Result, refused, gave, on_gave, Answer, Effect, profile_ok, lent_ok, judge, apply, only, info_response, decide_get_info, register_draft, register_checks, decide_register, chosen, name_response, has_content, mixed_in, transaction_hash, sign_draft, sign_one, sign_chosen, decide_sign, decide_deregister, decide_open_settings, decide, perform, table_of, refusals, outcome}
use Rattle.model.specs.Writer.{marked, number, pieces, children_for, command_of, each_ok, writable, write_values, values_in, form_of}
use Rattle.model.specs.Withdrawals.{withdraw_refusals, withdraw}
use Rattle.model.specs.Traces.{Form, itself, in_stored_form, result, next, final, is_holders, calls_of, observe, fresh, roomy}

unfoldable pub hashing : Unit {0}
unfolding be ◌⊞◌ rotr Ch Maj Σ0 Σ1 σ0 σ1 K padding words_of H0 next_word extend schedule T1 T2 step steps plus compress blocks finish digest sha256 mixed_in
hashing = tt

unfoldable pub computing : Unit {0}
unfolding eq_bytes follow utf8_after num le bytes tlvs_past well_formed fits kind_of children_ok children broken fields_in field_in fill write matches record_ok own table_ok encode stored_as decode profile_ok lent_ok judge apply only info_response decide_get_info register_draft register_checks decide_register chosen name_response has_content transaction_hash sign_draft sign_one sign_chosen decide_sign decide_deregister decide_open_settings decide perform table_of refusals outcome marked number pieces children_for command_of each_ok writable write_values values_in form_of withdraw_refusals withdraw result next final is_holders calls_of observe fresh roomy
computing = tt

-- what a command answers, and the table after it
abbrev pub answered : Result Effect → Result Answer
answered r = on_gave (λ e. e.answer) r

abbrev pub left_after : Result Effect → Table → Table
left_after (refused n) t = t
left_after (gave e) t = e.left

-- two facts that are computed, one for each form: as clauses each would be computed once more
pub each-form : (P : Form → Type 0) → P itself → P in_stored_form → (f : Form) → P f
each-form P a b itself = a
each-form P a b in_stored_form = b

-- ---- the caller and its records

-- the caller's access token, and its mixed token where no AppID is given: `sha256 token`
abbrev pub token : List ℕ
token = replicate 32 0xAA

abbrev pub holder : List ℕ
holder =
    0xE0 ∷ 0xE7 ∷ 0x7A ∷ 0x50 ∷ 0x74 ∷ 0x12 ∷ 0xB1 ∷ 0x20 ∷ 0xF6 ∷ 0xED ∷ 0xE6 ∷ 0x1F ∷ 0x62 ∷ 0x29 ∷ 0x5B ∷ 0x1A
    ∷ 0x7B ∷ 0x2F ∷ 0xF1 ∷ 0x9D ∷ 0x3D ∷ 0xCC ∷ 0x8F ∷ 0x72 ∷ 0x53 ∷ 0xE5 ∷ 0x16 ∷ 0x63 ∷ 0x47 ∷ 0x0C ∷ 0x88 ∷ 0x8E ∷ []

-- an allowed profile and allowed lent results: the user is verified
abbrev pub lent : Lent
lent =
    record {
      aaid = 0xA1 ∷ 0xA2 ∷ 0xA3 ∷ 0xA4 ∷ 0xA5 ∷ 0xA6 ∷ 0xA7 ∷ 0xA8 ∷ 0xA9 ∷ [];
      version = 0x0102;
      signature_algorithm = 0x0304;
      key_algorithm = 0x0506;
      metadata = 0xB1 ∷ 0xB2 ∷ 0xB3 ∷ 0xB4 ∷ 0xB5 ∷ 0xB6 ∷ 0xB7 ∷ 0xB8 ∷ 0xB9 ∷ 0xBA ∷ 0xBB ∷ 0xBC ∷ 0xBD ∷ 0xBE ∷ 0xBF ∷ [];
      verdict = 0;
      display = 0;
      key_id = replicate 32 0xD0;
      public_key = 0xD1 ∷ 0xD2 ∷ [];
      nonce = replicate 8 0xD3;
    }

-- a record of the caller, which has signed 7 times
abbrev pub stands : ℕ → List ℕ → Record
stands k name = record { key_id = replicate 32 k; mixed = holder; name = name; count = 7 }

abbrev pub ann : Record
ann = stands 0xAA (0x41 ∷ 0x6E ∷ 0x6E ∷ [])

abbrev pub bo : Record
bo = stands 0xBB (0x42 ∷ 0x6F ∷ [])

abbrev pub ann_then_bo : Table
ann_then_bo = ann ∷ bo ∷ []

-- so many records of mixed token m, with KeyIDs from k on
abbrev pub standing : ℕ → List ℕ → ℕ → Table
standing k m zero = []
standing k m (suc n) = record { key_id = replicate 32 (k + n); mixed = m; name = 0x41 ∷ []; count = 7 } ∷ standing k m n

-- ---- commands

abbrev pub sign_command : List ℕ
sign_command =
    0x03 ∷ 0x34 ∷ 0x2E ∷ 0x00 ∷ 0x0D ∷ 0x28 ∷ 0x01 ∷ 0x00 ∷ 0x00 ∷ 0x0A ∷ 0x2E ∷ 0x01 ∷ 0x00 ∷ 0xAA ∷ 0x05 ∷ 0x28 ∷ 0x20 ∷ 0x00 ∷ token

-- a Register whose value has so many bytes, with a username of n
abbrev pub register_command : ℕ → ℕ → List ℕ
register_command size n =
    0x02 ∷ 0x34 ∷ size ∷ 0x00 ∷ 0x0D ∷ 0x28 ∷ 0x01 ∷ 0x00 ∷ 0x00 ∷ 0x0A ∷ 0x2E ∷ 0x01 ∷ 0x00 ∷ 0xAA
    ∷ 0x06 ∷ 0x28 ∷ n ∷ 0x00 ∷ replicate n 0x43
    ++ (0x07 ∷ 0x28 ∷ 0x02 ∷ 0x00 ∷ 0x07 ∷ 0x3E ∷ 0x05 ∷ 0x28 ∷ 0x20 ∷ 0x00 ∷ token)

-- ---- answers

-- GetInfo's response, 94 bytes
abbrev pub info : List ℕ
info =
    0x01 ∷ 0x36 ∷ 0x5A ∷ 0x00 ∷ 0x08 ∷ 0x28 ∷ 0x02 ∷ 0x00 ∷ 0x00 ∷ 0x00
    ∷ 0x0E ∷ 0x28 ∷ 0x01 ∷ 0x00 ∷ 0x01
    ∷ 0x11 ∷ 0x38 ∷ 0x4B ∷ 0x00
    ∷ 0x0D ∷ 0x28 ∷ 0x01 ∷ 0x00 ∷ 0x00
    ∷ 0x0B ∷ 0x2E ∷ 0x09 ∷ 0x00 ∷ 0xA1 ∷ 0xA2 ∷ 0xA3 ∷ 0xA4 ∷ 0xA5 ∷ 0xA6 ∷ 0xA7 ∷ 0xA8 ∷ 0xA9
    ∷ 0x09 ∷ 0x28 ∷ 0x0F ∷ 0x00 ∷ 0xB1 ∷ 0xB2 ∷ 0xB3 ∷ 0xB4 ∷ 0xB5 ∷ 0xB6 ∷ 0xB7 ∷ 0xB8 ∷ 0xB9 ∷ 0xBA ∷ 0xBB ∷ 0xBC ∷ 0xBD ∷ 0xBE ∷ 0xBF
    ∷ 0x0C ∷ 0x28 ∷ 0x0A ∷ 0x00 ∷ 0x74 ∷ 0x65 ∷ 0x78 ∷ 0x74 ∷ 0x2F ∷ 0x70 ∷ 0x6C ∷ 0x61 ∷ 0x69 ∷ 0x6E
    ∷ 0x0A ∷ 0x28 ∷ 0x08 ∷ 0x00 ∷ 0x55 ∷ 0x41 ∷ 0x46 ∷ 0x56 ∷ 0x31 ∷ 0x54 ∷ 0x4C ∷ 0x56
    ∷ 0x07 ∷ 0x28 ∷ 0x02 ∷ 0x00 ∷ 0x07 ∷ 0x3E
    ∷ 0x07 ∷ 0x28 ∷ 0x02 ∷ 0x00 ∷ 0x08 ∷ 0x3E ∷ []

-- the draft of register_command, a KRD of 87 bytes
abbrev pub krd : List ℕ
krd =
    0x03 ∷ 0x3E ∷ 0x53 ∷ 0x00
    ∷ 0x0B ∷ 0x2E ∷ 0x09 ∷ 0x00 ∷ 0xA1 ∷ 0xA2 ∷ 0xA3 ∷ 0xA4 ∷ 0xA5 ∷ 0xA6 ∷ 0xA7 ∷ 0xA8 ∷ 0xA9
    ∷ 0x0E ∷ 0x2E ∷ 0x07 ∷ 0x00 ∷ 0x02 ∷ 0x01 ∷ 0x01 ∷ 0x04 ∷ 0x03 ∷ 0x06 ∷ 0x05
    ∷ 0x0A ∷ 0x2E ∷ 0x01 ∷ 0x00 ∷ 0xAA
    ∷ 0x09 ∷ 0x2E ∷ 0x20 ∷ 0x00 ∷ replicate 32 0xD0
    ++ (0x0D ∷ 0x2E ∷ 0x08 ∷ 0x00 ∷ 0x00 ∷ 0x00 ∷ 0x00 ∷ 0x00 ∷ 0x00 ∷ 0x00 ∷ 0x00 ∷ 0x00
    ∷ 0x0C ∷ 0x2E ∷ 0x02 ∷ 0x00 ∷ 0xD1 ∷ 0xD2 ∷ [])

-- SIGNED_DATA whose value has so many bytes, with this mode, content hash (from its length on), KeyID and count
abbrev pub signed_data_of : ℕ → ℕ → List ℕ → ℕ → List ℕ → List ℕ
signed_data_of size mode hash k count =
    0x04 ∷ 0x3E ∷ size ∷ 0x00
    ∷ 0x0B ∷ 0x2E ∷ 0x09 ∷ 0x00 ∷ 0xA1 ∷ 0xA2 ∷ 0xA3 ∷ 0xA4 ∷ 0xA5 ∷ 0xA6 ∷ 0xA7 ∷ 0xA8 ∷ 0xA9
    ∷ 0x0E ∷ 0x2E ∷ 0x05 ∷ 0x00 ∷ 0x02 ∷ 0x01 ∷ mode ∷ 0x04 ∷ 0x03
    ∷ 0x0F ∷ 0x2E ∷ 0x08 ∷ 0x00 ∷ 0xD3 ∷ 0xD3 ∷ 0xD3 ∷ 0xD3 ∷ 0xD3 ∷ 0xD3 ∷ 0xD3 ∷ 0xD3
    ∷ 0x0A ∷ 0x2E ∷ 0x01 ∷ 0x00 ∷ 0xAA
    ∷ 0x10 ∷ 0x2E ∷ hash
    ++ (0x09 ∷ 0x2E ∷ 0x20 ∷ 0x00 ∷ replicate 32 k ++ (0x0D ∷ 0x2E ∷ 0x04 ∷ 0x00 ∷ count))

-- Ann and Bo by name and KeyID, 103 bytes
abbrev pub ann_then_bo_listed : List ℕ
ann_then_bo_listed =
    0x03 ∷ 0x36 ∷ 0x63 ∷ 0x00 ∷ 0x08 ∷ 0x28 ∷ 0x02 ∷ 0x00 ∷ 0x00 ∷ 0x00
    ∷ 0x02 ∷ 0x38 ∷ 0x2B ∷ 0x00 ∷ 0x06 ∷ 0x28 ∷ 0x03 ∷ 0x00 ∷ 0x41 ∷ 0x6E ∷ 0x6E ∷ 0x01 ∷ 0x28 ∷ 0x20 ∷ 0x00 ∷ replicate 32 0xAA
    ++ (0x02 ∷ 0x38 ∷ 0x2A ∷ 0x00 ∷ 0x06 ∷ 0x28 ∷ 0x02 ∷ 0x00 ∷ 0x42 ∷ 0x6F ∷ 0x01 ∷ 0x28 ∷ 0x20 ∷ 0x00 ∷ replicate 32 0xBB)
