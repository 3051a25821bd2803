-- Document 01, "Complete".
use Rattle.std.specs.Prelude.{ℕ, Bool, true, false, not, cond, ◌&&◌, ◌||◌, List, [], ◌∷◌, ◌++◌, ltb, eqb}
use Rattle.model.specs.Lists.{any, empty}
use Rattle.model.specs.Tlv.{le, Tlv, tlv, bytes, fits, tag_of, ok, signature, certificate, full, surrogate, register, sign, response_tag, assertion_tag, reg_assertion_tag, auth_assertion_tag}
use Rattle.model.specs.Layouts.{Layout, end, reads}
use Rattle.model.specs.Commands.{Check, check, judge, Result, refused, gave, key_registration_data, signed_data, least_output, over}

-- what is lent to a completion, and the response output's length
pub record Completion : Type 0 where
  pub kind : ℕ
  pub draft : List ℕ
  pub type : ℕ
  pub signature : List ℕ
  pub certificate : List ℕ
  pub output : ℕ

-- "0 registration .. 1 sign", and a draft "that a command can write for that kind"
abbrev pub drafts_of : ℕ → List Layout
drafts_of kind =
    cond (eqb kind 0) (key_registration_data end ∷ [])
    (cond (eqb kind 1) (signed_data true end ∷ signed_data false end ∷ []) [])

unfoldable pub is_draft : ℕ → List ℕ → Bool
is_draft kind d = any (λ l. reads l d) (drafts_of kind)

-- "the signature has 1 to 512 bytes and, for registration, the type is one of the two, with one certificate of 1 to 2,048 bytes for
-- full and an empty one for surrogate"; "Sign ignores type and certificate"
unfoldable pub completion_ok : Completion → Bool
completion_ok c =
    fits signature c.signature
    && (eqb c.kind 1 || (eqb c.type full && fits certificate c.certificate)
    || (eqb c.type surrogate && empty c.certificate))

-- "the draft, then SIGNATURE, for registration inside the attestation tag, where full has CERT after it"
abbrev pub signature_of : Completion → Tlv
signature_of c = tlv (tag_of signature) c.signature

abbrev pub attestation : Completion → List ℕ
attestation c = bytes (signature_of c ∷ cond (eqb c.type full) (tlv (tag_of certificate) c.certificate ∷ []) [])

abbrev pub assertion : Completion → List ℕ
assertion c =
    c.draft ++ cond (eqb c.kind 1) (bytes (signature_of c ∷ [])) (bytes (tlv c.type (attestation c) ∷ []))

-- "It writes response, status OK, AUTHENTICATOR_ASSERTION, the assertion"
unfoldable pub completed : Completion → List ℕ
completed c =
    let signs = eqb c.kind 1 in
    let held = bytes (tlv (cond signs auth_assertion_tag reg_assertion_tag) (assertion c) ∷ []) in
    bytes (tlv (response_tag (cond signs sign register)) (bytes (tlv (tag_of ok) (le 2 0) ∷ tlv assertion_tag held ∷ [])) ∷ [])

-- "1; 5 if .. the lent draft is none that a command can write ..; 4 unless ..": whether the output is short, the draft is one, and what is
-- lent with it is right
abbrev pub completion_checks : Bool → Bool → Bool → List Check
completion_checks short draft_ok lent_ok = check 1 short ∷ check 5 (not draft_ok) ∷ check 4 (not lent_ok) ∷ []

unfoldable pub complete : Completion → Result (List ℕ)
complete c =
    judge (completion_checks (ltb c.output least_output) (is_draft c.kind c.draft) (completion_ok c)) refused (gave (completed c))

-- the response output after it
abbrev pub output_of : Result (List ℕ) → List ℕ → List ℕ
output_of (refused n) out = out
output_of (gave s) out = over s out
