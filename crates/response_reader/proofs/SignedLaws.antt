-- The first signed structure that the walk of a stretch meets: none in a response that has none, and the TLV at place 18 in a completed one.
-- What a stretch is, by what was read of it.
-- Assumes nothing.
use mathlib.Core.Path.{◌≡◌, refl, sym, ap, ◌∙◌}
use mathlib.Core.Bool.{Bool, true, false, not, cond, ◌&&◌, ◌||◌, or-false}
use mathlib.Core.List.{List, [], ◌∷◌, map}
use Prim.Native.Nat.{ℕ, ◌+◌, ◌-◌, ◌≤◌, ◌<◌}
use native.Mathlib.Omega.{arith}
use lib.ListN.{length, get_or}
use Rattle.std.specs.Prelude.{Option, Some, None}
use Rattle.std.specs.Bool.{then_some}
use Rattle.std.specs.Option.{is_some, IfSome}
use lib.Dec.{leb, eqb}
use borrow.Author.Tests.{leb-true, not-true, eq-eqb, ne_eqb}
use Rattle.model.specs.Lists.{all, any, select, first, distinct}
use Rattle.model.specs.Tlv.{Field, get_info, register, sign, kinds, ok, tag_of, rule_of, signature, certificate, full, surrogate, response_tag, assertion_tag, reg_assertion_tag, auth_assertion_tag, krd_tag, signed_tag, fits}
use Rattle.model.specs.Layouts.{Layout, group, reads}
use Rattle.model.specs.Commands.{status_only, info, name_list}
use Rattle.model.specs.Reader.{Part, holds, asserted, registered, signed, listed_keys, is_response, Stretch, stretch, is_signed, list_lengths}
use Rattle.model.proofs.Basics.{split, impossible, either, and_left, and_right}
use Rattle.model.proofs.PartLaws.{honest, lacks}
use Rattle.model.proofs.LayoutWritten.{all_member, any_found}
use Rattle.tlv.specs.Numbers.{num_at}
use Rattle.tlv.specs.Spans.{span, no_span}
use Rattle.tlv.specs.declared.heads.Span.{Span}
use Rattle.tlv.proofs.HeadLaws.{IsTlv}
use Rattle.layouts.specs.Places.{reads_at, obeys, in_group, after_group}
use Rattle.layouts.proofs.PlaceLaws.{then-group, from_front, in_before, tlv-before}
use Rattle.layouts.proofs.SizeLaws.{lacks_none}
use Rattle.response_reader.specs.Met.{met, span_of, signed_met}
use Rattle.response_reader.specs.Responses.{alone, headed, Opened, Longer, in_assertion}
use Rattle.response_reader.specs.Shapes.{shape_of, signed_at, OpeningIs}
use Rattle.response_reader.specs.declared.shapes.Opening.{Opening}
use Rattle.response_reader.specs.declared.shapes.Opening.TheVariants.{Alone}
use Rattle.response_reader.proofs.MetLaws.{met-tlv, parts-met}
use Rattle.response_reader.proofs.OpeningLaws.{Headed, headed-is, status_in, status-is, opened}
use Rattle.response_reader.proofs.ShapeLaws.{then_assertion, alone-any, alone-is, status_bad, info-is, registered-is, signed_is}

-- ---- the first signed structure

-- of some parts
abbrev pub first_signed : List Part → Stretch
first_signed ps = stretch (first (select (λ p. is_signed p.tag) ps))

-- that is met from a place on
unfoldable signed_from : List ℕ → ℕ → Span
signed_from s at = span_of (first_signed (met s at))

signed_start : (s : List ℕ) → signed_met s ≡ signed_from s 0
unfolding signed_from
signed_start s = refl

module _ {s : List ℕ} {at tag start end : ℕ} (i : IsTlv s at tag start end) where
  signed_here : is_signed tag ≡ true → signed_from s at ≡ span at end
  unfolding signed_from
  signed_here e =
      let x : start - 4 ≡ at = omega (arith, i) in
      let y : at + (end - start + 4) ≡ end = omega (arith, i) in
      rw (met-tlv i, e, x, y)

  signed_later : {b : Bool} → is_signed tag ≡ false → holds tag ≡ b → signed_from s at ≡ signed_from s (cond b start end)
  unfolding signed_from
  signed_later e f = rw (met-tlv i, e, f)

-- ---- a response that has none

-- a layout without one
abbrev unsigned : Layout → Bool
unsigned l = honest 5 l && lacks is_signed l

none_signed : (s : List ℕ) (ls : List Layout) → all unsigned ls ≡ true → any (λ l. reads l s) ls ≡ true → no_span ≡ signed_met s
none_signed s ls a e =
    let (l, m, r) = any_found (λ l. reads l s) ls e in
    let k = all_member unsigned m a in
    let h : honest 5 l ≡ true = and_left (honest 5 l) _ k in
    let n = lacks_none is_signed l s h (and_right (honest 5 l) _ k) r in
    rw (parts-met l s h r) at (ap (λ (ps : List Part). span_of (stretch (first ps))) (sym n))

-- ---- a completed response

pub record Completed (s : List ℕ) : Type 0 where
  pub room : 22 ≤ length s
  pub at_18 : signed_at s ≡ signed_met s

-- the outer tag, the assertion's and the signed structure's
abbrev tags_fit : ℕ → ℕ → ℕ → Bool
tags_fit outer assertion g =
    holds outer && not (is_signed outer) && (holds assertion && not (is_signed assertion)) && is_signed g

span-there : {s : List ℕ} {at tag start end : ℕ} → IsTlv s at tag start end → at ≡ 18 → span at end ≡ signed_at s
span-there {s} i e = rw (i.end_is, e)

signed-there : (s : List ℕ) (outer assertion g : ℕ) (inner l : Layout) → Opened outer s → 10 < length s
    → reads (asserted outer assertion (group g inner l)) s ≡ true → tags_fit outer assertion g ≡ true → Completed s
unfolding in_assertion reads_at
signed-there s outer assertion g inner l o n e f =
    let b : ℕ = in_group assertion_tag s 10 in
    let a : ℕ = in_group assertion s b in
    let z : ℕ = after_group g inner s a in
    let r : reads_at l s z ≡ true = from_front (then_assertion o refl (then-group refl (record { given = refl }))) ∙ e in
    let h : z ≤ length s = leb-true _ _ (and_left (leb z (length s)) _ r) in
    let i5 : IsTlv s a g (a + 4) z = (tlv-before h g (reads inner) refl).0 in
    let h4 : a ≤ length s = omega (arith, i5) in
    let i4 : IsTlv s b assertion a (length s) = in_before h4 assertion refl in
    let h3 : b ≤ length s = omega (arith, i4) in
    let i3 : IsTlv s 10 assertion_tag b (length s) = in_before h3 assertion_tag refl in
    let h2 : 10 ≤ length s = omega arith in
    let i2 : IsTlv s 4 (tag_of ok) 8 10 = (tlv-before h2 (tag_of ok) (obeys (rule_of ok)) o.past).0 in
    let h1 : 4 ≤ length s = omega arith in
    let i1 : IsTlv s 0 outer 4 (length s) = in_before h1 outer o.inside in
    let x : b ≡ 14 = omega (arith, i3) in
    let y : a ≡ 18 = omega (arith, i4) in
    let f1 : holds outer ≡ true = search (and_left, and_right) in
    let f2 : not (is_signed outer) ≡ true = search (and_left, and_right) in
    let f3 : holds assertion ≡ true = search (and_left, and_right) in
    let f4 : not (is_signed assertion) ≡ true = search (and_left, and_right) in
    let f5 : is_signed g ≡ true = search (and_left, and_right) in
    let w : signed_met s ≡ span a z =
    signed_start s ∙ signed_later i1 (not-true _ f2) f1 ∙ signed_later i2 refl refl ∙ signed_later i3 refl refl
    ∙ signed_later i4 (not-true _ f4) f3 ∙ signed_here i5 f5 in
    record { room = omega (arith, i5); at_18 = sym (w ∙ span-there i5 y) }

-- each of the four
module _ {s : List ℕ} where
  registered_with : (type : ℕ) (parts : List Field) → Longer (response_tag register) s → reads (registered type parts) s ≡ true → Completed s
  registered_with type parts g e =
      signed-there s (response_tag register) reg_assertion_tag krd_tag _ _ g.opened g.more e refl

  signed_with : (content : Bool) → Longer (response_tag sign) s → reads (signed content) s ≡ true → Completed s
  signed_with content g e =
      signed-there s (response_tag sign) auth_assertion_tag signed_tag _ _ g.opened g.more e refl

-- ---- what a stretch is

pub shape_no : (s : List ℕ) → is_response s ≡ false → None ≡ shape_of s
unfolding shape_of
shape_no s e = rw e

shape_yes : (s : List ℕ) {p : Span} → is_response s ≡ true → p ≡ signed_met s → Some p ≡ shape_of s
unfolding shape_of
shape_yes s e f = rw (e, f)

-- by a test of what has no signed structure
shape_plain : (s : List ℕ) (b : Bool) → is_response s ≡ b → (b ≡ true → no_span ≡ signed_met s) → then_some b no_span ≡ shape_of s
shape_plain s true e f = shape_yes s e (f refl)
shape_plain s false e f = shape_no s e

pub info_shape : (s : List ℕ) {b : Bool} → Longer (response_tag get_info) s → b ≡ reads info s → then_some b no_span ≡ shape_of s
info_shape s {b} g e = shape_plain s b (info-is g ∙ sym e) (λ f. none_signed s (info ∷ []) refl (rw (← e, f)))

-- one of the two forms of a completed registration, and of a completed Sign
abbrev pub is_registered_as : List ℕ → Bool
is_registered_as s = reads (registered full (signature ∷ certificate ∷ [])) s || reads (registered surrogate (signature ∷ [])) s

abbrev pub is_signed_as : List ℕ → Bool
is_signed_as s = reads (signed true) s || reads (signed false) s

pub names_shape : (s : List ℕ) {a b : Bool} → Longer (response_tag sign) s → a ≡ is_signed_as s → a ≡ false
    → b ≡ (any (λ n. reads (name_list n) s) list_lengths && distinct (listed_keys s)) → then_some b no_span ≡ shape_of s
names_shape s {a} {b} g e f h =
    let r : is_response s ≡ b = signed_is g ∙ rw (← e, f, ← h) in
    shape_plain s b r
    (λ k. none_signed s (map name_list list_lengths) refl (and_left (any (λ n. reads (name_list n) s) list_lengths) _ (sym h ∙ k)))

-- a completed response
module _ (s : List ℕ) {a : Bool} (y : a ≡ true) where
  pub signed-complete : Longer (response_tag sign) s → a ≡ is_signed_as s → Completed s
  signed-complete g e = either (reads (signed true) s) (reads (signed false) s) (sym e ∙ y) (signed_with true g) (signed_with false g)

  pub signed_shape : Longer (response_tag sign) s → a ≡ is_signed_as s → Some (signed_at s) ≡ shape_of s
  signed_shape g e = shape_yes s (signed_is g ∙ rw (← e, y)) (signed-complete g e).at_18

  pub registered-complete : Longer (response_tag register) s → a ≡ is_registered_as s → Completed s
  registered-complete g e =
      let with-full : Layout = registered full (signature ∷ certificate ∷ []) in
      let with-surrogate : Layout = registered surrogate (signature ∷ []) in
      either (reads with-full s) (reads with-surrogate s) (sym e ∙ y) (registered_with full (signature ∷ certificate ∷ []) g)
      (registered_with surrogate (signature ∷ []) g)

  registered_shape : Longer (response_tag register) s → a ≡ is_registered_as s → Some (signed_at s) ≡ shape_of s
  registered_shape g e = shape_yes s (registered-is g ∙ sym e ∙ y) (registered-complete g e).at_18

-- its signed structure, if it is one
pub registered_then : (s : List ℕ) {a : Bool} {r : Option Span} → is_some r ≡ a → IfSome r (λ p. p ≡ signed_at s) → Longer (response_tag register) s
    → a ≡ is_registered_as s → r ≡ shape_of s
registered_then s {r = Some p} v h g e = ap Some h ∙ registered_shape s (sym v) g e
registered_then s {r = None} v h g e = shape_no s (registered-is g ∙ sym e ∙ sym v)

-- by the status
module _ {s : List ℕ} {n : ℕ} (h : Headed s) (b : get_or s 8 0 < 256) (e : n ≡ num_at 2 s 8) where
  alone_case : (a : Bool) → length s ≡ 10 → is_response s ≡ a → OpeningIs s (then_some a Alone)
  alone_case true l r = (r, none_signed s (map status_only kinds) refl (sym (alone-any s l) ∙ r))
  alone_case false l r = r

  pub alone_opens : {t : ℕ} {a : Bool} → length s ≡ 10 → t ≡ num_at 2 s 0 → a ≡ alone t n → OpeningIs s (then_some a Alone)
  alone_opens {a = a} l f k = alone_case a l (alone-is h l b ∙ rw (← e, ← f) (sym k))

  fits-ok : fits ok (status_in s) ≡ eqb n 0
  fits-ok = status-is s (0 ∷ []) h.long b refl ∙ rw (← e) (or-false (eqb n 0))

  module _ (l : length s ≡ 10 → ⊥) where
    pub status-no : (n ≡ 0 → ⊥) → is_response s ≡ false
    status-no f = status_bad h (omega (arith, h.long)) (fits-ok ∙ ne_eqb n 0 f)

    pub longer-than : {t : ℕ} → t ≡ num_at 2 s 0 → n ≡ 0 → Longer t s
    longer-than f z = record { opened = opened h f (fits-ok ∙ eq-eqb n 0 z); more = omega (arith, h.long) }

-- where more follows another status
pub more_after : (s : List ℕ) → headed s ≡ true → get_or s 8 0 < 256 → (length s ≡ 10 → ⊥) → (num_at 2 s 8 ≡ 0 → ⊥) → is_response s ≡ false
more_after s h b l f = status-no (headed-is h) b refl l f

-- by how it starts
module _ (s : List ℕ) {r : Option Opening} (i : OpeningIs s r) where
  pub opening-alone : r ≡ Some Alone → (is_response s ≡ true) × (Some no_span ≡ shape_of s)
  opening-alone e = let k : (is_response s ≡ true) × (no_span ≡ signed_met s) = rw e at i in (k.0, shape_yes s k.0 k.1)

-- ---- what it says of the stretch

pub no_response : (s : List ℕ) {r : Option Span} → r ≡ shape_of s → r ≡ None → is_response s ≡ false
unfolding shape_of
no_response s e f = split (is_response s) (λ h. let k : Some (signed_met s) ≡ None = sym (rw h at e) ∙ f in impossible cc) (λ h. h)

pub response_with : (s : List ℕ) {r : Option Span} {p : Span} → r ≡ shape_of s → r ≡ Some p → (is_response s ≡ true) × (p ≡ signed_met s)
unfolding shape_of
response_with s {p = p} e f =
    split (is_response s)
    (λ h. let k : Some (signed_met s) ≡ Some p = sym (rw h at e) ∙ f in (h, cc))
    (λ h. let k : None ≡ Some p = sym (rw h at e) ∙ f in impossible cc)

pub is_shape_of : (s : List ℕ) {r : Option Span} → r ≡ shape_of s → is_some r ≡ is_response s
unfolding shape_of
is_shape_of s e = rw e (split (is_response s) (λ h. rw h) (λ h. rw h))
