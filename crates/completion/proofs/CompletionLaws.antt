-- Completions: what a draft is and how long it can be, what is asked of its seal, and what the function gives.
-- Assumes nothing.
use mathlib.Core.Path.{◌≡◌, sym, ap, ◌∙◌}
use mathlib.Core.Bool.{Bool, true, false, ◌&&◌, ◌||◌, or-false}
use mathlib.Core.List.{List, []}
use Prim.Native.Nat.{ℕ, ◌+◌, ◌≤◌, ◌<◌}
use native.Mathlib.Omega.{arith}
use lib.ListN.{length}
use lib.Dec.{eqb}
use borrow.Author.Tests.{lt-ltb, le-ltb, eq-eqb, ne_eqb, eqb-true}
use Rattle.std.specs.Prelude.{Ok, Err}
use Rattle.model.specs.Lists.{empty}
use Rattle.model.specs.Tlv.{le, fits, signature, certificate, full, surrogate, krd_tag}
use Rattle.model.specs.Layouts.{end, reads}
use Rattle.model.specs.Commands.{judge, refused, gave, key_registration_data, signed_data, least_output}
use Rattle.model.specs.Complete.{Completion, drafts_of, is_draft, completion_ok, completed, complete}
use Rattle.model.proofs.Basics.{split, and_left, and_right}
use Rattle.model.proofs.LayoutLaws.{most, fits-most}
use Rattle.model.proofs.LayoutWritten.{any_found, each_member}
use Rattle.model.proofs.CommandWrites.{drafts_each}
use Rattle.model.proofs.Refusals.{completes}
use Rattle.tlv.specs.Writing.{Wrote}
use Rattle.tlv.proofs.HeadLaws.{empty-size}
use Rattle.layouts.proofs.SizeLaws.{reads-most}
use Rattle.layouts.specs.Places.{after_group}
use Rattle.layouts.specs.Groups.{krd_fields, after_signed}
use Rattle.layouts.proofs.PlaceLaws.{from_front, reads_front, then-group, then_signed, then_end}
use Rattle.fields.specs.Refusals.{ended, ends}
use Rattle.fields.proofs.RefusalLaws.{ends-refused, ends-wrote}
use Rattle.fields.specs.declared.refusals.Refusal.TheVariants.{ShortOutput, NotWritten, WrongLent}
use Rattle.completion.specs.Completions.{completion, kind_number}
use Rattle.completion.specs.declared.Kind.{Kind}
use Rattle.completion.specs.declared.Kind.TheVariants.{Registration, Sign}

-- ---- the draft

module _ (k : ℕ) (d : List ℕ) where
  pub registration_draft : {b : Bool} → k ≡ 0 → b ≡ reads (key_registration_data end) d → b ≡ is_draft k d
  unfolding is_draft
  registration_draft e h = rw (eq-eqb k 0 e) (h ∙ sym (or-false _))

  pub sign-draft : {a b : Bool} → k ≡ 1 → a ≡ reads (signed_data true end) d → b ≡ reads (signed_data false end) d
      → (a || b) ≡ is_draft k d
  unfolding is_draft
  sign-draft e h i = rw (e, h, i, or-false)

  pub other_draft : (k ≡ 0 → ⊥) → (k ≡ 1 → ⊥) → false ≡ is_draft k d
  unfolding is_draft
  other_draft e f = rw (ne_eqb k 0 e, ne_eqb k 1 f)

  -- a draft is the group of its kind that ends with the stretch; a sign draft is one with content or without
  pub registration_by : {to : ℕ} → k ≡ 0 → to ≡ after_group krd_tag krd_fields d 0 → eqb to (length d) ≡ is_draft k d
  registration_by e h = registration_draft e (from_front (then-group h then_end))

  pub sign_by : {to : ℕ} → k ≡ 1 → to ≡ after_signed d 0 → eqb to (length d) ≡ is_draft k d
  sign_by e h = then_signed _ h then_end ∙ sign-draft e (sym (reads_front _ _)) (sym (reads_front _ _))

signed-most : (b : Bool) → most (signed_data b end) ≤ 628
signed-most true = omega arith
signed-most false = omega arith

draft-most : (k : ℕ) (d : List ℕ) → is_draft k d ≡ true → length d ≤ 628
unfolding is_draft le
draft-most k d e =
    let (l, m, r) = any_found (λ l. reads l d) (drafts_of k) e in
    let h : most l ≤ 628 = each_member (λ l. most l ≤ 628) m (drafts_each _ k (λ i. omega arith) (λ b i. signed-most b)) in
    omega (arith, reads-most l d r)

-- ---- the seal: the signature, the attestation type and the certificate

empty-is : (v : List ℕ) → eqb (length v) 0 ≡ empty v
empty-is v = sym (empty-size v (length v) 0 (omega arith))

-- the code's tests, in their order
module _ (k t : ℕ) (s c : List ℕ) {a : Bool} (f : a ≡ fits signature s) where
  pub unsigned : a ≡ false → false ≡ completion_ok (completion k [] t s c 0)
  unfolding completion_ok
  unsigned e = rw (← f, e)

  module _ (e : a ≡ true) where
    pub sign-sealed : k ≡ 1 → true ≡ completion_ok (completion k [] t s c 0)
    unfolding completion_ok
    sign-sealed h = rw (← f, e, h)

    module _ (h : k ≡ 0) where
      pub full-sealed : {b : Bool} → t ≡ full → b ≡ fits certificate c → b ≡ completion_ok (completion k [] t s c 0)
      unfolding completion_ok
      full-sealed i g = rw (← f, e, h, i) (g ∙ sym (or-false _))

      pub surrogate-sealed : {b : Bool} → t ≡ surrogate → b ≡ eqb (length c) 0 → b ≡ completion_ok (completion k [] t s c 0)
      unfolding completion_ok
      surrogate-sealed i g = rw (← f, e, h, i) (g ∙ empty-is c)

      pub unsealed : (t ≡ full → ⊥) → (t ≡ surrogate → ⊥) → false ≡ completion_ok (completion k [] t s c 0)
      unfolding completion_ok
      unsealed i j = rw (← f, e, h, ne_eqb t full i, ne_eqb t surrogate j)

pub ruleset by_seal = (unsigned, sign-sealed, full-sealed, surrogate-sealed, unsealed)

-- a certificate of a registration is none, or one that fits
certificate-most : (x : Completion) → x.kind ≡ 0 → completion_ok x ≡ true → length x.certificate ≤ 2048
unfolding completion_ok
certificate-most x h e =
    let c = x.certificate in
    let i = rw h at (and_right (fits signature x.signature) _ e) in
    split (eqb x.type full && fits certificate c)
    (λ f. fits-most certificate c (and_right (eqb x.type full) _ f))
    (λ f. let z = eqb-true (length c) 0 (empty-is c ∙ and_right (eqb x.type surrogate) _ (rw f at i)) in omega arith)

-- ---- what the function gives

-- the three tests passed
pub record Passes (x : Completion) : Type 0 where
  pub room : least_output ≤ x.output
  pub draft : is_draft x.kind x.draft ≡ true
  pub seal : completion_ok x ≡ true

-- the first that fails says which refusal it is
module _ (x : Completion) where
  pub refused-short : x.output < least_output → complete x ≡ refused 1
  unfolding complete judge
  refused-short h = rw (lt-ltb _ _ h)

  module _ (h : least_output ≤ x.output) where
    pub refused-draft : is_draft x.kind x.draft ≡ false → complete x ≡ refused 5
    unfolding complete judge
    refused-draft d = rw (le-ltb _ _ h, d)

    pub refused-lent : is_draft x.kind x.draft ≡ true → completion_ok x ≡ false → complete x ≡ refused 4
    unfolding complete judge
    refused-lent d l = rw (le-ltb _ _ h, d, l)

-- and the function tells it
module _ (x : Completion) {out : List ℕ} where
  pub short_ends : x.output < least_output → ended (Err ShortOutput) out ≡ ends (complete x) out
  short_ends h = ends-refused ShortOutput (refused-short x h)

  module _ (h : least_output ≤ x.output) where
    no-draft : is_draft x.kind x.draft ≡ false → ended (Err NotWritten) out ≡ ends (complete x) out
    no-draft d = ends-refused NotWritten (refused-draft x h d)

    -- of a number that no kind has, and of a draft that its kind has not
    pub no_kind-ends : ((k : Kind) → x.kind ≡ kind_number k → ⊥) → ended (Err NotWritten) out ≡ ends (complete x) out
    no_kind-ends f = no-draft (sym (other_draft x.kind x.draft (f Registration) (f Sign)))

    module _ (k : Kind) (e : x.kind ≡ kind_number k) {a : Bool} (i : a ≡ is_draft (kind_number k) x.draft) where
      pub no_draft-ends : a ≡ false → ended (Err NotWritten) out ≡ ends (complete x) out
      no_draft-ends d = no-draft (rw (e, ← i) d)

      pub lent-ends : a ≡ true → {b : Bool} → b ≡ completion_ok (completion (kind_number k) [] x.type x.signature x.certificate 0) → b ≡ false
          → ended (Err WrongLent) out ≡ ends (complete x) out
      unfolding completion_ok
      lent-ends d j l = ends-refused WrongLent (refused-lent x h (rw (e, ← i) d) (rw (e, ← j) l))

-- the draft and the output are no part of what is asked of a seal
pub passed : (x : Completion) → least_output ≤ x.output → (k : Kind) → x.kind ≡ kind_number k → is_draft (kind_number k) x.draft ≡ true
    → completion_ok (completion (kind_number k) [] x.type x.signature x.certificate 0) ≡ true → Passes x
unfolding completion_ok
passed x h k e d l = record { room = h; draft = rw e d; seal = rw e l }

module _ {x : Completion} (p : Passes x) where
  -- the room that its parts take: 628 and 512 bytes at most, and a certificate's 2,048
  pub parts-short : length x.draft + length x.signature ≤ 1140
  unfolding completion_ok
  parts-short =
      let h = draft-most x.kind x.draft p.draft in
      let i = fits-most signature x.signature (and_left _ _ p.seal) in
      omega arith

  pub certificate-short : x.kind ≡ 0 → length x.certificate ≤ 2048
  certificate-short h = certificate-most x h p.seal

  module _ {out out' : List ℕ} {r : ℕ} where
    wrote-ends : {s : List ℕ} → completed x ≡ s → Wrote out 0 s r out' r → ended (Ok r) out' ≡ ends (complete x) out
    wrote-ends e w = ends-wrote (completes x p.room p.draft p.seal ∙ ap gave e) w

    -- each writer's contract names only what a response of its form holds
    pub sign-ends : x.kind ≡ 1 → Wrote out 0 (completed (completion 1 x.draft 0 x.signature [] 0)) r out' r
        → ended (Ok r) out' ≡ ends (complete x) out
    unfolding completed
    sign-ends e w = wrote-ends (rw e) w

    pub registration-ends : x.kind ≡ 0
        → Wrote out 0 (completed (completion 0 x.draft x.type x.signature x.certificate 0)) r out' r
        → ended (Ok r) out' ≡ ends (complete x) out
    unfolding completed
    registration-ends e w = wrote-ends (rw e) w
