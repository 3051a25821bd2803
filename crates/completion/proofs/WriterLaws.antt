-- What the writers wrote: the response around an assertion.
-- Assumes nothing.
use mathlib.Core.Path.{◌≡◌, refl, ◌∙◌}
use mathlib.Core.List.{List, [], ◌∷◌, ◌++◌, append_assoc}
use Prim.Native.Nat.{ℕ, ◌+◌}
use native.Mathlib.Omega.{arith}
use lib.ListN.{length}
use borrow.Author.Tests.{eq-eqb, ne_eqb}
use Rattle.model.specs.Tlv.{le, Tlv, tlv, header, bytes, tag_of, ok, certificate, full, assertion_tag}
use Rattle.model.specs.Complete.{Completion, signature_of, attestation}
use Rattle.model.proofs.Tlvs.{bytes-append, bytes_one, length-bytes, length-one}
use Rattle.model.proofs.CompletionWrites.{wrapped}
use Rattle.tlv.specs.Writing.{Wrote}
use Rattle.tlv.proofs.WriteLaws.{then, then_run, same, from_front}
use Rattle.completion.specs.Completions.{opening, certificate_size}

length-inside : (v : List ℕ) → length (bytes (tlv (tag_of ok) (le 2 0) ∷ tlv assertion_tag v ∷ [])) ≡ length v + 10
unfolding le
length-inside v = length-bytes (tlv (tag_of ok) (le 2 0)) (tlv assertion_tag v ∷ []) ∙ omega (arith, length-one assertion_tag v)

module _ {d d₁ d₂ d₃ : List ℕ} {a₁ a₂ a₃ : ℕ} (response assertion n : ℕ) where
  -- the start of a response, and two headers
  pub wrote-opening : Wrote d 0 (header response (n + 14) ++ bytes (tlv 0x2808 (le 2 0) ∷ [])) 10 d₁ a₁
      → Wrote d₁ a₁ (header assertion_tag (n + 4)) 4 d₂ a₂
      → Wrote d₂ a₂ (header assertion n) 4 d₃ a₃
      → Wrote d 0 (opening response assertion n) 18 d₃ a₃
  unfolding opening
  wrote-opening p q r = same (append_assoc (header response (n + 14)) (bytes (tlv 0x2808 (le 2 0) ∷ [])) _) refl (then p (then q r))

opening-is : (t a : ℕ) (v : List ℕ) → opening t a (length v) ++ v ≡ wrapped t a v
unfolding opening
opening-is t a v =
    let n : ℕ = length v in
    let held : List ℕ = bytes (tlv a v ∷ []) in
    let inside : List Tlv = tlv (tag_of ok) (le 2 0) ∷ tlv assertion_tag held ∷ [] in
    let k : length (bytes inside) ≡ n + 14 = omega (arith, length-inside held, length-one a v) in
    rw (
      bytes_one t (n + 14) (bytes inside) k,
      bytes-append (tlv (tag_of ok) (le 2 0) ∷ []) (tlv assertion_tag held ∷ []),
      bytes_one assertion_tag (n + 4) held (omega (arith, length-one a v)),
      bytes_one a n v refl,
    )
    (simp append_assoc)

module _ {d d₁ d₂ v : List ℕ} {n r₁ r₂ : ℕ} (response assertion : ℕ) where
  -- an opening, and a value of the length that it says
  pub opened : Wrote d 0 (opening response assertion n) 18 d₁ r₁ → Wrote d₁ r₁ v n d₂ r₂
      → Wrote d 0 (wrapped response assertion v) r₂ d₂ r₂
  opened p q = from_front (same (rw q.size at (opening-is response assertion v)) refl (then p q))

-- what stands in a registration's attestation tag: the signature, and the certificate of a full attestation
module _ {d d₁ : List ℕ} {at m r₁ : ℕ} (x : Completion) where
  pub without_certificate : (x.type ≡ full → ⊥) → m ≡ certificate_size x.type (length x.certificate)
      → Wrote d at (bytes (signature_of x ∷ [])) (4 + length x.signature) d₁ r₁
      → Wrote d at (attestation x) (4 + length x.signature + m) d₁ r₁
  without_certificate h e p = rw (e, ne_eqb x.type full h) (same refl (omega arith) p)

  pub with_certificate : {d₂ : List ℕ} {r₂ : ℕ} → x.type ≡ full → m ≡ certificate_size x.type (length x.certificate)
      → Wrote d at (bytes (signature_of x ∷ [])) (4 + length x.signature) d₁ r₁
      → Wrote d₁ r₁ (bytes (tlv (tag_of certificate) x.certificate ∷ [])) (4 + length x.certificate) d₂ r₂
      → Wrote d at (attestation x) (4 + length x.signature + m) d₂ r₂
  with_certificate h e p q = rw (e, eq-eqb x.type full h) (then_run _ _ p q)
