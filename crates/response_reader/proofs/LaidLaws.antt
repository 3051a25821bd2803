-- Over what a layout reads: where its fields stand, and that the lengths in the stretch are the layout's.
-- Assumes nothing.
use mathlib.Core.Path.{◌≡◌, refl, sym, ap, ◌∙◌}
use mathlib.Core.Bool.{Bool, true, false, not, cond}
use mathlib.Core.List.{List, [], ◌∷◌, ◌++◌, append_assoc, append-nil}
use Prim.Native.Nat.{ℕ, zero, suc, ◌+◌, ◌≤◌}
use native.Mathlib.Omega.{arith}
use lib.ListN.{length, drop}
use lib.Seq.{drop-drop, drop-append_seam}
use lib.Dec.{eqb}
use borrow.Author.Tests.{eqb-true}
use Rattle.model.specs.Lists.{select}
use Rattle.model.specs.Tlv.{Tlv, Field, rule_of, tag_of, fits, assertion_tag}
use Rattle.model.specs.Layouts.{Layout, end, field, group, reads}
use Rattle.model.specs.Reader.{holds, parts_at, parts, field_parts}
use Rattle.model.proofs.Basics.{split, clash, select-append}
use Rattle.model.proofs.LayoutLaws.{fits-least, fits-most}
use Rattle.model.proofs.PartLaws.{honest}
use Rattle.tlv.specs.Numbers.{num_at}
use Rattle.layouts.proofs.SizeLaws.{Front, Layered, nothing, one, many, layered, length_front, parts_front, parts_nothing, honest_field, honest_group}
use Rattle.response_reader.specs.Laid.{size_at, fields_from, Lies}

-- ---- the first TLV of what stands at a place

-- some bytes stand at a place of a stretch, and the rest follows
record Stands (w : List ℕ) (at : ℕ) (s rest : List ℕ) : Type 0 where
  there : drop at w ≡ s ++ rest

-- the place after a TLV
abbrev next : ℕ → Tlv → ℕ
next at t = at + 4 + length t.value

module _ {w : List ℕ} {at : ℕ} {t : Tlv} {ts : List Tlv} {s rest : List ℕ} (p : Front t ts s) (e : Stands w at s rest) where
  spelled_there : drop at w ≡ p.a ∷ p.b ∷ p.c ∷ p.d ∷ (t.value ++ (p.after ++ rest))
  spelled_there = e.there ∙ rw (p.spelled, append_assoc t.value p.after rest)

  inside-there : Stands w (at + 4) t.value (p.after ++ rest)
  inside-there = record { there = sym (drop-drop 4 at w) ∙ ap (drop 4) spelled_there }

  length-there : num_at 2 w (at + 2) ≡ length t.value
  unfolding num_at
  length-there = rw (← drop-drop 2 at w, spelled_there) p.length-is

  after-there : Stands w (next at t) p.after rest
  after-there =
      record {
        there =
            sym (drop-drop (length t.value) (at + 4) w) ∙ rw (inside-there.there, drop-append_seam t.value (p.after ++ rest));
      }

  tag-there : num_at 2 w at ≡ t.tag
  unfolding num_at
  tag-there = rw spelled_there p.tag_is

  -- it is a field
  size-there : (f : Field) → fits f t.value ≡ true → size_at f w at ≡ length t.value
  size-there f i =
      split (eqb (rule_of f).least (rule_of f).most)
      (λ h. let k : (rule_of f).least ≡ (rule_of f).most = eqb-true _ _ h in
      rw h (omega (arith, fits-least f t.value i, fits-most f t.value i)))
      (λ h. rw h length-there)

-- ---- a run that something follows

lies_at : {w : List ℕ} {at : ℕ} (to : ℕ) {l : Layout} {s rest : List ℕ} → Layered l s → Stands w at s rest → to ≡ at + length s
    → Lies l w at to
lies_at to nothing e h = omega arith
lies_at {w} {at} to (one {f = f} {t = t} p g i r) e h =
    let n : size_at f w at ≡ length t.value = size-there p e f i in
    (length-there p e ∙ sym n, rw n (lies_at {at = next at t} to r (after-there p e) (omega (arith, length_front p))))
lies_at {w} {at} to (many {t = t} p g i r) e h =
    let n : num_at 2 w (at + 2) ≡ length t.value = length-there p e in
    rw n (
      lies_at {at = at + 4} (next at t) i (inside-there p e) refl,
      lies_at {at = next at t} to r (after-there p e) (omega (arith, length_front p)),
    )

laid_at : (n : ℕ) {w : List ℕ} {at : ℕ} {l : Layout} {s rest : List ℕ} → Layered l s → Stands w at s rest → honest n l ≡ true
    → select (λ p. not (holds p.tag)) (parts_at n at s) ≡ fields_from l w at
laid_at n {at = at} nothing e h = rw (parts_nothing n at)
laid_at zero (one p g i r) e h = clash h refl
laid_at zero (many p g i r) e h = clash h refl
laid_at (suc n) {at = at} (one {f = f} {l = l} p g i r) e h =
    let k = honest_field n f l h in
    rw (parts_front n at p, g, k.0, size-there p e f i) (cc (laid_at (suc n) r (after-there p e) k.1))
laid_at (suc n) {at = at} (many {g = g} {inner = inner} {l = l} {t = t} p j i r) e h =
    let k = honest_group n g inner l h in
    rw (
      parts_front n at p,
      j,
      k.0,
      select-append (λ p. not (holds p.tag)) (parts_at n (at + 4) t.value) (parts_at (suc n) (next at t) p.after),
      length-there p e,
    )
    (cc (laid_at n i (inside-there p e) k.1, laid_at (suc n) r (after-there p e) k.2))

-- a run ends after its start
pub lies_before : (l : Layout) (s : List ℕ) (at to : ℕ) → Lies l s at to → at ≤ to
lies_before end s at to i = omega arith
lies_before (field f l) s at to i = omega (arith, lies_before l s (at + 4 + size_at f s at) to i.1)
lies_before (group t inner l) s at to i = omega (arith, lies_before l s (at + 4 + num_at 2 s (at + 2)) to i.1)

-- ---- what follows a first field

-- a test has a value
abbrev same : Bool → Bool → Bool
same b x = cond b x (not x)

same_self : (x : Bool) → same x x ≡ true
same_self true = refl
same_self false = refl

-- a run starts with AUTHENTICATOR_ASSERTION, or not, unless it is empty
abbrev opens : Bool → Layout → Bool
opens b end = true
opens b (field f l) = same b (eqb (tag_of f) assertion_tag)
opens b (group g inner l) = same b (eqb g assertion_tag)

-- so does what follows its first field
abbrev opens_next : Bool → Layout → Bool
opens_next b end = true
opens_next b (field f l) = opens b l
opens_next b (group g inner l) = true

-- in its first group
abbrev pub opens_inside : Bool → Layout → Bool
opens_inside b end = true
opens_inside b (field f l) = true
opens_inside b (group g inner l) = opens_next b inner

opens_at : {w : List ℕ} {at : ℕ} {l : Layout} {s rest : List ℕ} → Layered l s → Stands w at s rest
    → opens (eqb (num_at 2 w at) assertion_tag) l ≡ true
opens_at nothing e = refl
opens_at (one {f = f} p g i r) e = rw (tag-there p e, g) (same_self (eqb (tag_of f) assertion_tag))
opens_at (many {g = g} p j i r) e = rw (tag-there p e, j) (same_self (eqb g assertion_tag))

next_at : {w : List ℕ} {l : Layout} {s rest : List ℕ} → Layered l s → Stands w 4 s rest → num_at 2 w 6 ≡ 2
    → opens_next (eqb (num_at 2 w 10) assertion_tag) l ≡ true
next_at nothing e h = refl
next_at (one {t = t} p g i r) e h =
    let y : 8 + length t.value ≡ 10 = omega (arith, length-there p e) in
    rw y at (opens_at r (after-there p e))
next_at (many p g i r) e h = refl

inside_at : {l : Layout} {s : List ℕ} → Layered l s → Stands s 0 s [] → num_at 2 s 6 ≡ 2
    → opens_inside (eqb (num_at 2 s 10) assertion_tag) l ≡ true
inside_at nothing e h = refl
inside_at (one p g i r) e h = refl
inside_at (many p g i r) e h = next_at i (inside-there p e) h

-- ---- a stretch

module _ (l : Layout) (s : List ℕ) (e : reads l s ≡ true) where
  whole : Stands s 0 s []
  whole = record { there = sym (append-nil s) }

  pub fields_laid : honest 5 l ≡ true → field_parts s ≡ fields_from l s 0
  unfolding parts field_parts
  fields_laid h = laid_at 5 (layered l s e) whole h

  pub lies : Lies l s 0 (length s)
  lies = lies_at (length s) (layered l s e) whole (omega arith)

  -- after a status of two bytes
  pub opens_ten : num_at 2 s 6 ≡ 2 → opens_inside (eqb (num_at 2 s 10) assertion_tag) l ≡ true
  opens_ten h = inside_at (layered l s e) whole h
