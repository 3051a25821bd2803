-- Request A2 of document 02: each command as its writer writes it, byte for byte; each rule of a field at its limit and one past it; the refusals in
-- their order; and the form of a command.
-- Assumes nothing.
use mathlib.Core.Path.{◌≡◌, refl, sym, subst}
use mathlib.Core.Bool.{true, false}
use mathlib.Core.List.{List, [], ◌∷◌, ◌++◌, map}
use mathlib.Core.Option.{some}
use Prim.Native.Nat.{ℕ}
use native.Mathlib.Omega.{arith}
use lib.ListN.{replicate}
use Rattle.model.specs.Tlv.{Bytes, le, get_info, register, sign, open_settings, kind_of, broken}
use Rattle.model.specs.Commands.{Result, refused, gave}
use Rattle.model.specs.Writer.{number, Wanted, to_get_info, to_register, to_sign, to_deregister, to_open_settings, wanted_kind, wanted_values, write_command, values_in, form_of}
use Rattle.model.proofs.Basics.{impossible}
use Rattle.model.proofs.Numbers.{bytes_le}
use Rattle.model.proofs.Computing.{computing}
use Rattle.model.proofs.Witness.{zeros, byte}
use Rattle.model.proofs.WriterLaws.{written}
use Rattle.model.proofs.WriterForms.{number_means, InRange}
use Rattle.examples.proofs.Limits.{Line, ◌gives◌, Holds, holds}

-- the command, or the number of the refusal alone
abbrev bytes_or : Result (List ℕ) → List ℕ
bytes_or (refused n) = n ∷ []
bytes_or (gave s) = s

-- ---- each command, into an output that is just long enough: P1, P6 and, with an access token of 32 bytes, P7 and P8 of document 01, then commands with all that they list, children in the
-- order of 001's tables. Content that is given and empty is written, one that is not given is not; a handle that is given twice is written twice

abbrev aa : List ℕ
aa = 0xAA ∷ []

-- an access token in a command
abbrev token : List ℕ
token = 0x05 ∷ 0x28 ∷ 0x20 ∷ 0x00 ∷ replicate 32 0xAA

abbrev key : ℕ → List ℕ
key k = replicate 32 k

abbrev handle : ℕ → List ℕ
handle k = 0x01 ∷ 0x28 ∷ 0x20 ∷ 0x00 ∷ key k

abbrev plain_sign : List ℕ
plain_sign = 0x0D ∷ 0x28 ∷ 0x01 ∷ 0x00 ∷ 0x00 ∷ 0x0A ∷ 0x2E ∷ 0x01 ∷ 0x00 ∷ 0xAA ∷ token

abbrev command_lines : List Line
command_lines =
    bytes_or (write_command to_get_info 4) gives (0x01 ∷ 0x34 ∷ 0x00 ∷ 0x00 ∷ [])
    ∷ bytes_or (write_command to_open_settings 9) gives (0x06 ∷ 0x34 ∷ 0x05 ∷ 0x00 ∷ 0x0D ∷ 0x28 ∷ 0x01 ∷ 0x00 ∷ 0x00 ∷ [])
    ∷ bytes_or (write_command (to_deregister 0 [] [] (key 0xAA)) 49) gives
    (0x04 ∷ 0x34 ∷ 0x2D ∷ 0x00 ∷ 0x0D ∷ 0x28 ∷ 0x01 ∷ 0x00 ∷ 0x00 ∷ 0x09 ∷ 0x2E ∷ 0x00 ∷ 0x00 ∷ token)
    ∷ bytes_or (write_command (to_sign 0 [] aa 0 [] (key 0xAA) 0 [] [] []) 50) gives (0x03 ∷ 0x34 ∷ 0x2E ∷ 0x00 ∷ plain_sign)
    ∷ bytes_or (write_command (to_register 1 (0x61 ∷ []) aa (0x41 ∷ 0x6E ∷ []) 0x3E07 (key 0xAA) 1 (0x56 ∷ [])) 72) gives
    (0x02 ∷ 0x34 ∷ 0x44 ∷ 0x00 ∷ 0x0D ∷ 0x28 ∷ 0x01 ∷ 0x00 ∷ 0x00 ∷ 0x04 ∷ 0x28 ∷ 0x01 ∷ 0x00 ∷ 0x61 ∷ 0x0A ∷ 0x2E ∷ 0x01 ∷ 0x00 ∷ 0xAA
    ∷ 0x06 ∷ 0x28 ∷ 0x02 ∷ 0x00 ∷ 0x41 ∷ 0x6E ∷ 0x07 ∷ 0x28 ∷ 0x02 ∷ 0x00 ∷ 0x07 ∷ 0x3E
    ∷ token ++ (0x03 ∷ 0x28 ∷ 0x01 ∷ 0x00 ∷ 0x56 ∷ []))
    ∷ bytes_or (write_command (to_sign 1 (0x61 ∷ []) aa 1 [] (key 0xAA) 1 (0x56 ∷ []) (key 0xBB ++ (key 0xB0 ++ key 0xBB)) (32 ∷ 32 ∷ 32 ∷ [])) 172) gives
    (0x03 ∷ 0x34 ∷ 0xA8 ∷ 0x00 ∷ 0x0D ∷ 0x28 ∷ 0x01 ∷ 0x00 ∷ 0x00 ∷ 0x04 ∷ 0x28 ∷ 0x01 ∷ 0x00 ∷ 0x61 ∷ 0x0A ∷ 0x2E ∷ 0x01 ∷ 0x00 ∷ 0xAA
    ∷ 0x10 ∷ 0x28 ∷ 0x00 ∷ 0x00 ∷ token ++ (0x03 ∷ 0x28 ∷ 0x01 ∷ 0x00 ∷ 0x56 ∷ handle 0xBB ++ (handle 0xB0 ++ handle 0xBB)))
    ∷ bytes_or (write_command (to_deregister 1 (0x61 ∷ []) (key 0xBB) (key 0xAA)) 86) gives
    (0x04 ∷ 0x34 ∷ 0x52 ∷ 0x00 ∷ 0x0D ∷ 0x28 ∷ 0x01 ∷ 0x00 ∷ 0x00 ∷ 0x04 ∷ 0x28 ∷ 0x01 ∷ 0x00 ∷ 0x61 ∷ 0x09 ∷ 0x2E ∷ 0x20 ∷ 0x00
    ∷ key 0xBB ++ token)
    ∷ []

pub each-command : Holds command_lines
unfolding computing
each-command = holds command_lines refl

-- ---- each rule at its limits and past them: 0 for a command, else the refusal

abbrev read : Result (List ℕ) → ℕ
read (refused n) = n
read (gave s) = 0

abbrev says : List Wanted → ℕ → List ℕ
says ws n = map (λ w. read (write_command w n)) ws

-- a Register, a Sign and a Deregister with the least that they must have, but for these
abbrev for_app : ℕ → List ℕ → Wanted
for_app mark v = to_register mark v byte byte 0 (zeros 32) 0 []

abbrev for_challenge : List ℕ → Wanted
for_challenge v = to_register 0 [] v byte 0 (zeros 32) 0 []

abbrev for_name : List ℕ → Wanted
for_name v = to_register 0 [] byte v 0 (zeros 32) 0 []

abbrev for_type : ℕ → Wanted
for_type n = to_register 0 [] byte byte n (zeros 32) 0 []

abbrev for_token : List ℕ → Wanted
for_token v = to_register 0 [] byte byte 0 v 0 []

abbrev for_verify : ℕ → List ℕ → Wanted
for_verify mark v = to_register 0 [] byte byte 0 (zeros 32) mark v

abbrev for_content : ℕ → List ℕ → Wanted
for_content mark v = to_sign 0 [] byte mark v (zeros 32) 0 [] [] []

abbrev for_key : List ℕ → Wanted
for_key v = to_deregister 0 [] v (zeros 32)

abbrev for_handles : List ℕ → List ℕ → Wanted
for_handles hs ns = to_sign 0 [] byte 0 [] (zeros 32) 0 [] hs ns

abbrev rule_lines : List Line
rule_lines =
    says (for_app 1 [] ∷ for_app 1 byte ∷ for_app 1 (zeros 512) ∷ for_app 1 (zeros 513) ∷ for_app 0 (zeros 513) ∷ for_app 2 byte ∷ []) 8192
    gives (6 ∷ 0 ∷ 0 ∷ 6 ∷ 0 ∷ 6 ∷ [])
    ∷ says (for_challenge [] ∷ for_challenge byte ∷ for_challenge (zeros 32) ∷ for_challenge (zeros 33) ∷ []) 8192 gives (6 ∷ 0 ∷ 0 ∷ 6 ∷ [])
    ∷ says (for_name [] ∷ for_name byte ∷ for_name (zeros 128) ∷ for_name (zeros 129) ∷ for_name (0x80 ∷ []) ∷ for_name (0xC3 ∷ 0xA9 ∷ []) ∷ []) 8192
    gives (6 ∷ 0 ∷ 0 ∷ 6 ∷ 6 ∷ 0 ∷ [])
    ∷ says (for_type 0 ∷ for_type 65535 ∷ for_type 65536 ∷ []) 8192 gives (0 ∷ 0 ∷ 6 ∷ [])
    ∷ says (for_token [] ∷ for_token byte ∷ for_token (zeros 31) ∷ for_token (zeros 32) ∷ for_token (zeros 33) ∷ []) 8192 gives (6 ∷ 6 ∷ 6 ∷ 0 ∷ 6 ∷ [])
    ∷ says (for_verify 0 [] ∷ for_verify 1 [] ∷ for_verify 2 [] ∷ for_verify 256 [] ∷ []) 8192 gives (0 ∷ 0 ∷ 6 ∷ 6 ∷ [])
    ∷ says (for_content 0 [] ∷ for_content 1 [] ∷ for_content 2 [] ∷ []) 8192 gives (0 ∷ 0 ∷ 6 ∷ [])
    ∷ says (for_key [] ∷ for_key byte ∷ for_key (zeros 31) ∷ for_key (zeros 32) ∷ for_key (zeros 33) ∷ []) 8192 gives (0 ∷ 6 ∷ 6 ∷ 0 ∷ 6 ∷ [])
    ∷ says (for_handles (zeros 256) (replicate 8 32) ∷ for_handles (zeros 288) (replicate 9 32) ∷ for_handles (zeros 64) (31 ∷ 33 ∷ [])
    ∷ for_handles (zeros 33) (32 ∷ []) ∷ for_handles (zeros 63) (32 ∷ 32 ∷ []) ∷ for_handles (zeros 32) [] ∷ for_handles [] (32 ∷ []) ∷ []) 8192
    gives (0 ∷ 6 ∷ 6 ∷ 6 ∷ 6 ∷ 6 ∷ 6 ∷ [])
    ∷ []

pub each-rule : Holds rule_lines
unfolding computing
each-rule = holds rule_lines refl

-- 6 comes before 1: outputs that are just long enough, one byte short, and empty, for a token of 32 bytes and for one of 31
abbrev order_lines : List Line
order_lines =
    says (for_token (zeros 32) ∷ for_token (zeros 31) ∷ []) 61 gives (0 ∷ 6 ∷ [])
    ∷ says (for_token (zeros 32) ∷ for_token (zeros 31) ∷ []) 60 gives (1 ∷ 6 ∷ [])
    ∷ says (to_get_info ∷ to_open_settings ∷ for_token (zeros 32) ∷ for_token (zeros 31) ∷ []) 0 gives (1 ∷ 1 ∷ 1 ∷ 6 ∷ [])
    ∷ []

pub six_before_one : Holds order_lines
unfolding computing
six_before_one = holds order_lines refl

-- ---- the form of a Sign whose children come in another order, with a tag that is skipped: that of P8

abbrev form_lines : List Line
form_lines =
    form_of sign
    (0x03 ∷ 0x34 ∷ 0x33 ∷ 0x00 ∷ token
    ++ (0xFF ∷ 0x0F ∷ 0x01 ∷ 0x00 ∷ 0x78 ∷ 0x0D ∷ 0x28 ∷ 0x01 ∷ 0x00 ∷ 0x00 ∷ 0x0A ∷ 0x2E ∷ 0x01 ∷ 0x00 ∷ 0xAA ∷ []))
    gives (0x03 ∷ 0x34 ∷ 0x2E ∷ 0x00 ∷ plain_sign)
    ∷ []

pub form-of : Holds form_lines
unfolding computing
form-of = holds form_lines refl

-- ---- what the laws ask is needed. A Sign with an empty AppID is its own form and breaks a rule, so no writer writes it (in-range). The children of an
-- Open settings under the outer tag of GetInfo have as their form an Open settings, which is another command (has-form). And a Register whose attestation
-- type is not of bytes is its own form and breaks no rule, and no writer writes it, which are lent the type as a number (in-range)

abbrev empty_app : List ℕ
empty_app =
    0x03 ∷ 0x34 ∷ 0x32 ∷ 0x00 ∷ 0x0D ∷ 0x28 ∷ 0x01 ∷ 0x00 ∷ 0x00 ∷ 0x04 ∷ 0x28 ∷ 0x00 ∷ 0x00 ∷ 0x0A ∷ 0x2E ∷ 0x01 ∷ 0x00 ∷ 0xAA ∷ token

pub unbroken_needed : (form_of sign empty_app ≡ empty_app) × (broken sign empty_app ≡ true)
unfolding computing
unbroken_needed = (refl, refl)

abbrev under_info : List ℕ
under_info = 0x01 ∷ 0x34 ∷ 0x05 ∷ 0x00 ∷ 0x0D ∷ 0x28 ∷ 0x01 ∷ 0x00 ∷ 0x00 ∷ []

pub kind_needed : (broken open_settings under_info ≡ false) × (kind_of under_info ≡ some get_info) × (kind_of (form_of open_settings under_info) ≡ some open_settings)
unfolding computing
kind_needed = (refl, refl, refl)

abbrev wide_type : List ℕ
wide_type =
    0x02 ∷ 0x34 ∷ 0x39 ∷ 0x00 ∷ 0x0D ∷ 0x28 ∷ 0x01 ∷ 0x00 ∷ 0x00 ∷ 0x0A ∷ 0x2E ∷ 0x01 ∷ 0x00 ∷ 0xAA ∷ 0x06 ∷ 0x28 ∷ 0x01 ∷ 0x00 ∷ 0x41
    ∷ 0x07 ∷ 0x28 ∷ 0x02 ∷ 0x00 ∷ 300 ∷ 0x00 ∷ token

pub bytes_needed : (broken register wide_type ≡ false) × (form_of register wide_type ≡ wide_type)
unfolding computing
bytes_needed = (refl, refl)

-- the fifth of its values would be two bytes of a number
type_of : (w : Wanted) → wanted_kind w ≡ register → wanted_values w ≡ values_in register wide_type → ⊥
unfolding computing
type_of to_get_info k e = impossible cc
type_of (to_register ma a c u t i mv v) k e =
    let f : number t ≡ some ((300 ∷ 0 ∷ []) ∷ []) = cc in
    let (h, p) = number_means t _ f in
    let q : 300 ∷ 0 ∷ [] ≡ le 2 t = cc in
    let b : Bytes (300 ∷ 0 ∷ []) = subst Bytes (sym q) (bytes_le 2 t) in
    absurd (omega (arith, b.0))
type_of (to_sign ma a c mt t i mv v hs ns) k e = impossible cc
type_of (to_deregister ma a i j) k e = impossible cc
type_of to_open_settings k e = impossible cc

pub wide_unwritten : InRange register wide_type → ⊥
wide_unwritten r =
    let w = written (wanted_kind r.wanted) (wanted_values r.wanted) 61 wide_type (r.writes_it 61 (omega arith)) in
    type_of r.wanted r.kind (sym (rw r.kind at w.yields))
