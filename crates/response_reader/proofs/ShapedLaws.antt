-- The fields of each shape of response, with their places as the code computes them, and that what it reads on the way lies in the stretch.
-- Assumes nothing.
use mathlib.Core.Path.{◌≡◌, refl, sym, ◌∙◌}
use mathlib.Core.Bool.{Bool, true, false, not, cond, ◌&&◌, ◌||◌, or-false}
use mathlib.Core.List.{List, [], ◌∷◌, ◌++◌, map}
use Prim.Native.Nat.{ℕ, ◌+◌, ◌-◌, ◌≤◌}
use native.Mathlib.Omega.{arith}
use lib.ListN.{length}
use lib.Dec.{leb, eqb}
use borrow.Author.Tests.{leb-true, le-leb, eq-eqb, ne_eqb}
use Rattle.model.specs.Lists.{any, select}
use Rattle.model.specs.Tlv.{Kind, get_info, register, sign, deregister, open_settings, kinds, response_tag, assertion_tag, le, tag_of, aaid, assertion_info, challenge_hash, key_id, no_counts, public_key, nonce, content_hash, new_count, signature, certificate, full, surrogate}
use Rattle.model.specs.Layouts.{Layout, reads}
use Rattle.model.specs.Commands.{status_only, info, name_list}
use Rattle.model.specs.Reader.{Part, registered, signed, responses, list_lengths, field_parts, is_response}
use Rattle.model.proofs.Basics.{either, clash, both}
use Rattle.model.proofs.LayoutLaws.{most}
use Rattle.model.proofs.LayoutWritten.{outer_tag}
use Rattle.model.proofs.PartLaws.{honest}
use Rattle.tlv.specs.Numbers.{num_at, NumberAt}
use Rattle.layouts.proofs.SizeLaws.{layered, least, reads-least, reads-most}
use Rattle.response_reader.specs.Met.{part_at}
use Rattle.response_reader.specs.Laid.{status_row, info_rows}
use Rattle.response_reader.proofs.OpeningLaws.{Headed, headed-is}
use Rattle.response_reader.proofs.ShapeLaws.{layered_tag, response_read, response-among, response-headed, alone-any}
use Rattle.response_reader.proofs.LaidLaws.{fields_laid, lies, opens_inside, opens_ten}

-- ---- GetInfo's response

pub info-rows : (s : List ℕ) → reads info s ≡ true → field_parts s ≡ info_rows
unfolding le
info-rows s e = fields_laid info s e refl

-- ---- a completed registration

abbrev with_full : Layout
with_full = registered full (signature ∷ certificate ∷ [])

abbrev with_surrogate : Layout
with_surrogate = registered surrogate (signature ∷ [])

-- the place of its signature, and the place after it
abbrev signature_in : List ℕ → ℕ
signature_in s = 22 + num_at 2 s 20 + 4

abbrev after_signature : List ℕ → ℕ
after_signature s = signature_in s + 4 + num_at 2 s (signature_in s + 2)

-- KRD holds its public key's header, and the signature is there
pub record RegisteredLies (s : List ℕ) : Type 0 where
  pub krd : 50 + num_at 2 s 48 + 4 + 32 + 4 + 8 + 4 ≤ 22 + num_at 2 s 20
  pub signature : after_signature s ≤ length s

full_lies : (s : List ℕ) → reads with_full s ≡ true
    → RegisteredLies s × (after_signature s + 4 + num_at 2 s (after_signature s + 2) ≡ length s)
unfolding le
full_lies s e = let i = lies with_full s e in (record { krd = omega (arith, i); signature = omega (arith, i) }, omega (arith, i))

surrogate_lies : (s : List ℕ) → reads with_surrogate s ≡ true → RegisteredLies s × (after_signature s ≡ length s)
unfolding le
surrogate_lies s e = let i = lies with_surrogate s e in (record { krd = omega (arith, i); signature = omega (arith, i) }, omega (arith, i))

module _ (s : List ℕ) (e : (reads with_full s || reads with_surrogate s) ≡ true) where
  pub registered_lies : RegisteredLies s
  registered_lies = either (reads with_full s) (reads with_surrogate s) e (λ h. (full_lies s h).0) (λ h. (surrogate_lies s h).0)

  -- a certificate follows the signature, or the stretch ends
  is-surrogate : after_signature s ≡ length s → reads with_surrogate s ≡ true
  is-surrogate z = either (reads with_full s) (reads with_surrogate s) e (λ h. absurd (omega (arith, (full_lies s h).1))) (λ h. h)

  is-full : (after_signature s ≡ length s → ⊥) → reads with_full s ≡ true
  is-full z = either (reads with_full s) (reads with_surrogate s) e (λ h. h) (λ h. absurd (z (surrogate_lies s h).1))

-- the fields up to the signature, by the lengths that are read
abbrev pub registered_rows : (hash key krd size : ℕ) → List Part
registered_rows hash key krd size =
    let id = 50 + hash in
    let counts = id + 4 + 32 in
    let public = counts + 4 + 8 in
    status_row ∷ part_at (tag_of aaid) 26 9 ∷ part_at (tag_of (assertion_info 7 1)) 39 7 ∷ part_at (tag_of challenge_hash) 50 hash
    ∷ part_at (tag_of key_id) (id + 4) 32 ∷ part_at (tag_of no_counts) (counts + 4) 8 ∷ part_at (tag_of public_key) (public + 4) key
    ∷ part_at (tag_of signature) (22 + krd + 4 + 4) size ∷ []

module _ {s : List ℕ} {hash key krd size : ℕ} (e : (reads with_full s || reads with_surrogate s) ≡ true) (a : NumberAt 2 s 48 hash)
    (b : NumberAt 2 s (50 + hash + 4 + 32 + 4 + 8 + 2) key) (c : NumberAt 2 s 20 krd) (d : NumberAt 2 s (22 + krd + 4 + 2) size) where
  pub surrogate-rows : 22 + krd + 4 + 4 + size ≡ length s → field_parts s ≡ registered_rows hash key krd size
  unfolding le
  surrogate-rows z =
      rw (d.value, c.value, b.value, a.value)
      (fields_laid with_surrogate s (is-surrogate s e (rw (d.value, c.value) at z)) refl)

  module _ (z : 22 + krd + 4 + 4 + size ≡ length s → ⊥) where
    with-certificate : reads with_full s ≡ true
    with-certificate = is-full s e (rw (d.value, c.value) at z)

    -- the header of a certificate is there
    pub certificate-there : 22 + krd + 4 + 4 + size + 4 ≤ length s
    certificate-there = rw (d.value, c.value) (omega (arith, (full_lies s with-certificate).1))

    pub full-rows : let place : ℕ = 22 + krd + 4 + 4 + size + 4 in
        field_parts s ≡ registered_rows hash key krd size ++ (part_at (tag_of certificate) place (length s - place) ∷ [])
    unfolding le
    full-rows =
        let w : length s - (after_signature s + 4) ≡ num_at 2 s (after_signature s + 2) = omega (arith, (full_lies s with-certificate).1) in
        rw (d.value, c.value, b.value, a.value, w) (fields_laid with_full s with-certificate refl)

-- ---- a completed Sign

-- the place of the hash of the content
abbrev content_in : List ℕ → ℕ
content_in s = let challenge = 48 + num_at 2 s 46 in challenge + 4 + num_at 2 s (challenge + 2)

-- SIGNED_DATA holds that header and the two after it, and the signature is there
pub record SignedLies (s : List ℕ) : Type 0 where
  pub inside : content_in s + 4 + num_at 2 s (content_in s + 2) + 44 ≤ 22 + num_at 2 s 20
  pub signature : 22 + num_at 2 s 20 + 4 + num_at 2 s (22 + num_at 2 s 20 + 2) ≡ length s

-- the length of that hash
abbrev shown_in : Bool → ℕ
shown_in b = cond b 32 0

signed_as : (b : Bool) (s : List ℕ) → reads (signed b) s ≡ true → SignedLies s × (num_at 2 s (content_in s + 2) ≡ shown_in b)
unfolding le
signed_as true s e = let i = lies (signed true) s e in (record { inside = omega (arith, i); signature = omega (arith, i) }, omega (arith, i))
signed_as false s e = let i = lies (signed false) s e in (record { inside = omega (arith, i); signature = omega (arith, i) }, omega (arith, i))

pub signed_lies : (s : List ℕ) → (reads (signed true) s || reads (signed false) s) ≡ true → SignedLies s
signed_lies s e = either (reads (signed true) s) (reads (signed false) s) e (λ h. (signed_as true s h).0) (λ h. (signed_as false s h).0)

-- the fields, by the lengths that are read
abbrev pub signed_rows : (nonced hash shown inner size : ℕ) → List Part
signed_rows nonced hash shown inner size =
    let challenge = 48 + nonced in
    let content = challenge + 4 + hash in
    let id = content + 4 + shown in
    let counts = id + 4 + 32 in
    status_row ∷ part_at (tag_of aaid) 26 9 ∷ part_at (tag_of (assertion_info 5 1)) 39 5 ∷ part_at (tag_of nonce) 48 nonced
    ∷ part_at (tag_of challenge_hash) (challenge + 4) hash ∷ part_at (tag_of (content_hash true)) (content + 4) shown
    ∷ part_at (tag_of key_id) (id + 4) 32 ∷ part_at (tag_of new_count) (counts + 4) 4 ∷ part_at (tag_of signature) (22 + inner + 4) size ∷ []

rows_as : (b : Bool) (s : List ℕ) → reads (signed b) s ≡ true → let challenge = 48 + num_at 2 s 46 in
    field_parts s
    ≡ signed_rows (num_at 2 s 46) (num_at 2 s (challenge + 2)) (shown_in b) (num_at 2 s 20) (num_at 2 s (22 + num_at 2 s 20 + 2))
unfolding le
rows_as true s e = fields_laid (signed true) s e refl
rows_as false s e = fields_laid (signed false) s e refl

pub signed-rows : {s : List ℕ} {nonced hash shown inner : ℕ} → (reads (signed true) s || reads (signed false) s) ≡ true
    → NumberAt 2 s 46 nonced → NumberAt 2 s (48 + nonced + 2) hash → NumberAt 2 s (48 + nonced + 4 + hash + 2) shown → NumberAt 2 s 20 inner
    → field_parts s ≡ signed_rows nonced hash shown inner (length s - (22 + inner + 4))
signed-rows {s} {nonced} {hash} {shown} {inner} e a b c d =
    let w : length s - (22 + num_at 2 s 20 + 4) ≡ num_at 2 s (22 + num_at 2 s 20 + 2) = omega (arith, signed_lies s e) in
    let go : (x : Bool) → reads (signed x) s ≡ true → field_parts s ≡ signed_rows nonced hash shown inner (length s - (22 + inner + 4)) =
    λ x h. rw (d.value, c.value, b.value, a.value, w, (signed_as x s h).1) (rows_as x s h) in
    either (reads (signed true) s) (reads (signed false) s) e (go true) (go false)

-- the header of the hash of the content is there
pub content-there : {s : List ℕ} {nonced hash : ℕ} → (reads (signed true) s || reads (signed false) s) ≡ true → NumberAt 2 s 46 nonced
    → NumberAt 2 s (48 + nonced + 2) hash → 48 + nonced + 4 + hash + 4 ≤ length s
content-there {s} e a b = rw (b.value, a.value) (omega (arith, signed_lies s e))

-- ---- which shape it is

status_honest : (k : Kind) → honest 5 (status_only k) ≡ true
status_honest get_info = refl
status_honest register = refl
status_honest sign = refl
status_honest deregister = refl
status_honest open_settings = refl

only-status : (s : List ℕ) (ks : List Kind) → any (λ l. reads l s) (map status_only ks) ≡ true → field_parts s ≡ status_row ∷ []
only-status s [] e = clash e refl
only-status s (k ∷ ks) e =
    either (reads (status_only k) s) (any (λ l. reads l s) (map status_only ks)) e
    (λ h. fields_laid (status_only k) s h (status_honest k)) (only-status s ks)

pub status-rows : (s : List ℕ) → is_response s ≡ true → length s ≡ 10 → field_parts s ≡ status_row ∷ []
status-rows s e n = only-status s kinds (sym (alone-any s n) ∙ e)

-- more than a status is read by a layout that can be longer and has the outer tag
abbrev long_tagged : ℕ → Layout → Bool
long_tagged t l = leb 11 (most l) && eqb t (outer_tag l)

-- or that has neither of two and in which AUTHENTICATOR_ASSERTION follows the status, or not
abbrev long_other : Bool → Layout → Bool
long_other b l =
    leb 11 (most l) && (not (eqb (response_tag get_info) (outer_tag l)) && not (eqb (response_tag register) (outer_tag l)) && opens_inside b l)

module _ {s : List ℕ} {t : ℕ} (e : is_response s ≡ true) (n : length s ≡ 10 → ⊥) (a : NumberAt 2 s 0 t) where
  start : Headed s
  start = headed-is (response-headed s e)

  can-be : (l : Layout) → reads l s ≡ true → (leb 11 (most l) ≡ true) × (t ≡ outer_tag l)
  can-be l r = (
    le-leb 11 (most l) (omega (arith, start.long, reads-most l s r)),
    a.value ∙ layered_tag (omega (arith, start.long)) (layered l s r),
  )

  tagged : any (λ l. reads l s) (select (long_tagged t) responses) ≡ true
  tagged = response-among (long_tagged t) s (λ l r. both (can-be l r).0 (eq-eqb t (outer_tag l) (can-be l r).1)) e

  pub is-info : t ≡ response_tag get_info → reads info s ≡ true
  unfolding le
  is-info h = simp or-false at (rw h at tagged)

  pub is_registration : t ≡ response_tag register → (reads with_full s || reads with_surrogate s) ≡ true
  unfolding le
  is_registration h = simp or-false at (rw h at tagged)

  module _ (f : t ≡ response_tag get_info → ⊥) (g : t ≡ response_tag register → ⊥) where
    other : any (λ l. reads l s) (select (long_other (eqb (num_at 2 s 10) assertion_tag)) responses) ≡ true
    other =
        response-among _ s
        (λ l r. let x : t ≡ outer_tag l = (can-be l r).1 in
        let y : not (eqb (response_tag get_info) (outer_tag l)) ≡ true = rw (ne_eqb _ _ (λ z. f (x ∙ sym z))) in
        let w : not (eqb (response_tag register) (outer_tag l)) ≡ true = rw (ne_eqb _ _ (λ z. g (x ∙ sym z))) in
        both (can-be l r).0 (both (both y w) (opens_ten l s r start.two)))
        e

    pub is-signature : {u : ℕ} → NumberAt 2 s 10 u → u ≡ assertion_tag → (reads (signed true) s || reads (signed false) s) ≡ true
    unfolding le
    is-signature b h = simp or-false at (rw (eq-eqb (num_at 2 s 10) assertion_tag (sym b.value ∙ h)) at other)

    pub is-names : {u : ℕ} → NumberAt 2 s 10 u → (u ≡ assertion_tag → ⊥) → any (λ n. reads (name_list n) s) list_lengths ≡ true
    unfolding le
    is-names b h = rw (ne_eqb (num_at 2 s 10) assertion_tag (λ z. h (b.value ∙ z))) at other

-- after a status more than a header follows
pub more-there : (s : List ℕ) → is_response s ≡ true → (length s ≡ 10 → ⊥) → 14 ≤ length s
unfolding le
more-there s e n =
    let (l, k, r) = response_read (λ l. leb (most l) 10 || leb 14 (least l)) s refl e in
    either (leb (most l) 10) (leb 14 (least l)) k
    (λ h. absurd (n (omega (arith, leb-true (most l) 10 h, reads-most l s r, (headed-is (response-headed s e)).long))))
    (λ h. omega (arith, leb-true 14 (least l) h, reads-least l s r))
