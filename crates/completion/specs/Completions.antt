-- A completion from the parameters that carry it, its kind by number, and what its response begins with.
use Rattle.std.specs.Prelude.{◌≡◌, ℕ, ◌+◌, List, [], ◌∷◌, ◌++◌, Result, Ok, Err, cond, eqb}
use Rattle.model.specs.Tlv.{le, header, tlv, bytes, tag_of, ok, assertion_tag, full}
use Rattle.model.specs.Complete.{Completion}
use Rattle.fields.specs.declared.refusals.Refusal.{Refusal}
use Rattle.fields.specs.declared.refusals.Refusal.TheVariants.{NotWritten}
use Rattle.completion.specs.declared.Kind.{Kind}
use Rattle.completion.specs.declared.Kind.TheVariants.{Registration, Sign}

-- a completion of these
abbrev pub completion : (kind : ℕ) → (draft : List ℕ) → (type : ℕ) → (signature certificate : List ℕ) → (output : ℕ) → Completion
completion k d t s c n = record { kind = k; draft = d; type = t; signature = s; certificate = c; output = n }

-- "0 registration .. 1 sign"
abbrev pub kind_number : Kind → ℕ
kind_number Registration = 0
kind_number Sign = 1

-- the kind with this number; of any other number nothing is written
abbrev pub KindOf : ℕ → Result Kind Refusal → Type 0
KindOf n (Ok k) = n ≡ kind_number k
KindOf n (Err r) = (r ≡ NotWritten) × ((k : Kind) → n ≡ kind_number k → ⊥)

-- what stands before the draft in a response with these tags, where the assertion holds n bytes
unfoldable pub opening : ℕ → ℕ → ℕ → List ℕ
opening response assertion n =
    header response (n + 14) ++ (bytes (tlv (tag_of ok) (le 2 0) ∷ []) ++ (header assertion_tag (n + 4) ++ header assertion n))

-- the bytes that a certificate of n takes, which only a full attestation has
abbrev pub certificate_size : (type n : ℕ) → ℕ
certificate_size t n = cond (eqb t full) (4 + n) 0
