-- How a layout reads on from the place after its first TLV, and what stands before a place that was found.
-- Assumes nothing.
use mathlib.Core.Path.{◌≡◌, refl, sym, ◌∙◌}
use mathlib.Core.Bool.{Bool, true, false, cond, ◌&&◌, ◌||◌, and-false}
use mathlib.Core.List.{List, [], ◌∷◌}
use mathlib.Core.Option.{Option, none, some, map}
use Prim.Native.Nat.{ℕ, ◌+◌, ◌-◌, ◌≤◌, ◌<◌}
use native.Mathlib.Omega.{arith}
use lib.ListN.{length, drop, length-drop}
use lib.Seq.{take_all}
use lib.Dec.{leb, eqb}
use borrow.Author.Tests.{le-leb, lt-leb, ne_eqb, eqb-true, eqb-false}
use Rattle.model.specs.Tlv.{Tlv, tlvs, is_run, Field, rule_of, tag_of, fits, signed_tag}
use Rattle.model.specs.Layouts.{Layout, end, field, group, matches, reads}
use Rattle.model.specs.Commands.{signed_data}
use Rattle.model.proofs.Basics.{split, and_left, and_right}
use Rattle.tlv.specs.Heads.{head_at, between}
use Rattle.tlv.specs.declared.heads.Head.{Head}
use Rattle.tlv.specs.declared.heads.Head.TheVariants.{Tlv as Found, Bad, End}
use Rattle.tlv.proofs.HeadLaws.{IsTlv, tlv-is, bad_is, end_is, run_end, run_bad, run-tlv}
use Rattle.layouts.specs.Places.{nowhere, reads_at, past_head, after_tlv, obeys, after_field, after_group, in_head, in_group}
use Rattle.layouts.specs.Groups.{signed_fields, after_signed}

-- the next place, by what stands at a place
pub past_head_lem : (t : ℕ) (p : List ℕ → Bool) (s : List ℕ) (at : ℕ) {h : Head} → head_at s at ≡ h → after_tlv t p s at ≡ past_head t p s h
unfolding after_tlv
past_head_lem t p s at e = rw e

-- ---- reading on from the next place

pub reads_front : (l : Layout) (s : List ℕ) → reads l s ≡ reads_at l s 0
unfolding reads_at
reads_front l s = simp (le-leb 0 (length s) (omega arith))

-- a place of the stretch
inside : (l : Layout) (s : List ℕ) (at : ℕ) → at ≤ length s → reads_at l s at ≡ is_run (matches l) (tlvs (drop at s))
unfolding reads_at reads
inside l s at h = simp (le-leb _ _ h)

-- no run there that the layout matches
unread : (l : Layout) (s : List ℕ) (at : ℕ) → is_run (matches l) (tlvs (drop at s)) ≡ false → reads_at l s at ≡ false
unfolding reads_at reads
unread l s at e = rw e (and-false (leb at (length s)))

-- a place that is found if a test says so
pub found_if : (b : Bool) (l : Layout) (s : List ℕ) (at : ℕ) → reads_at l s (cond b at (nowhere s)) ≡ (b && reads_at l s at)
unfolding reads_at
found_if true l s at = refl
found_if false l s at = simp (lt-leb (length s + 1) (length s) (omega arith))

-- nothing more against a run's first TLV
end-first : (c : Tlv) (o : Option (List Tlv)) → is_run (matches end) (map (λ ts. c ∷ ts) o) ≡ false
unfolding matches
end-first c none = refl
end-first c (some ts) = refl

end_head : (s : List ℕ) (at : ℕ) (h : Head) → head_at s at ≡ h → reads_at end s at ≡ eqb at (length s)
unfolding matches reads_at reads
end_head s at (Found tag start stop) e =
    let i = tlv-is s at tag start stop e in
    unread end s at (rw (run-tlv i) (end-first _ (tlvs (drop stop s)))) ∙ sym (ne_eqb at (length s) (λ k. omega (arith, i)))
end_head s at Bad e =
    let b = bad_is s at e in
    unread end s at (rw (run_bad s at e)) ∙ sym (ne_eqb at (length s) (λ k. omega arith))
end_head s at End e =
    let g = end_is s at e in
    split (eqb at (length s))
    (λ q. let k : at ≡ length s = eqb-true _ _ q in inside end s at (omega arith) ∙ rw (run_end s at e) (sym q))
    (λ q. let k : at ≡ length s → ⊥ = eqb-false _ _ q in let m : length s < at = omega arith in simp (lt-leb _ _ m) (sym q))

pub read_end : (s : List ℕ) (at : ℕ) → reads_at end s at ≡ eqb at (length s)
read_end s at = end_head s at (head_at s at) refl

-- a layout begins with a TLV of this tag, whose value passes a test, and goes on with another layout
record Begins (whole : Layout) (t : ℕ) (p : List ℕ → Bool) (l : Layout) : Type 0 where
  never : matches whole [] ≡ false
  first : (c : Tlv) (ts : List Tlv) → matches whole (c ∷ ts) ≡ (eqb c.tag t && p c.value && matches l ts)

begins-field : (f : Field) (l : Layout) → Begins (field f l) (tag_of f) (obeys (rule_of f)) l
unfolding matches fits
begins-field f l = record { never = refl; first = λ c ts. refl }

begins-group : (t : ℕ) (inner l : Layout) → Begins (group t inner l) t (reads inner) l
unfolding matches reads
begins-group t inner l = record { never = refl; first = λ c ts. refl }

module _ {whole : Layout} {t : ℕ} {p : List ℕ → Bool} {l : Layout} (b : Begins whole t p l) (s : List ℕ) (at : ℕ) where
  against : (c : Tlv) (o : Option (List Tlv))
      → is_run (matches whole) (map (λ ts. c ∷ ts) o) ≡ (eqb c.tag t && p c.value && is_run (matches l) o)
  against c none = sym (and-false (eqb c.tag t && p c.value))
  against c (some ts) = b.first c ts

  by_head : (h : Head) → head_at s at ≡ h → reads_at whole s at ≡ reads_at l s (past_head t p s h)
  by_head (Found tag start stop) e =
      let i = tlv-is s at tag start stop e in
      rw (inside whole s at (omega (arith, i)), run-tlv i, found_if, inside l s stop i.within) (against _ (tlvs (drop stop s)))
  by_head Bad e = unread whole s at (rw (run_bad s at e)) ∙ sym (found_if false l s at)
  by_head End e = unread whole s at (rw (run_end s at e) b.never) ∙ sym (found_if false l s at)

  read_first : reads_at whole s at ≡ reads_at l s (after_tlv t p s at)
  unfolding after_tlv
  read_first = by_head (head_at s at) refl

pub read_field : (f : Field) (l : Layout) (s : List ℕ) (at : ℕ) → reads_at (field f l) s at ≡ reads_at l s (after_field f s at)
read_field f l s at = read_first (begins-field f l) s at

pub read_group : (t : ℕ) (inner l : Layout) (s : List ℕ) (at : ℕ)
    → reads_at (group t inner l) s at ≡ reads_at l s (after_group t inner s at)
read_group t inner l s at = read_first (begins-group t inner l) s at

-- one TLV whose value passes one of two tests
module _ (t : ℕ) (p q : List ℕ → Bool) (l : Layout) (s : List ℕ) (at : ℕ) where
  apart : (a b c d : Bool) → (a && (b || c) && d) ≡ (a && b && d || a && c && d)
  apart true true true true = refl
  apart true true true false = refl
  apart true true false true = refl
  apart true true false false = refl
  apart true false c d = refl
  apart false b c d = refl

  either_head : (h : Head)
      → reads_at l s (past_head t (λ v. p v || q v) s h) ≡ (reads_at l s (past_head t p s h) || reads_at l s (past_head t q s h))
  either_head (Found tag start stop) = simp found_if (apart (eqb tag t) (p (between s start stop)) (q (between s start stop)) (reads_at l s stop))
  either_head Bad = simp (found_if false l s at)
  either_head End = simp (found_if false l s at)

  either_test : reads_at l s (after_tlv t (λ v. p v || q v) s at) ≡ (reads_at l s (after_tlv t p s at) || reads_at l s (after_tlv t q s at))
  unfolding after_tlv
  either_test = either_head (head_at s at)

-- of a TLV that ends with the stretch the value is the rest, so the layout of its value reads on in the stretch itself
last-tlv : (a b c d : Bool) → (c ≡ true → b ≡ d) → (a && b && c) ≡ (a && c && d)
last-tlv true true true d h = h refl
last-tlv true false true d h = h refl
last-tlv true b false d h = and-false b
last-tlv false b c d h = refl

last-value : (l : Layout) (s : List ℕ) (start stop : ℕ) → start ≤ stop → stop ≡ length s → reads l (between s start stop) ≡ reads_at l s start
unfolding reads_at
last-value l s start stop h e =
    let k : start ≤ length s = omega arith in
    rw (take_all (stop - start) (drop start s) (simp length-drop (omega arith))) (simp (le-leb start (length s) k))

last_head : (t : ℕ) (inner : Layout) (s : List ℕ) (at : ℕ) (h : Head) → head_at s at ≡ h
    → reads_at end s (past_head t (reads inner) s h) ≡ reads_at inner s (in_head t s h)
last_head t inner s at (Found tag start stop) e =
    let i = tlv-is s at tag start stop e in
    simp (found_if, read_end)
    (last-tlv (eqb tag t) (reads inner (between s start stop)) (eqb stop (length s)) (reads_at inner s start)
    (λ q. last-value inner s start stop i.ordered (eqb-true stop (length s) q)))
last_head t inner s at Bad e = found_if false end s at ∙ sym (found_if false inner s at)
last_head t inner s at End e = found_if false end s at ∙ sym (found_if false inner s at)

pub read-last : (t : ℕ) (inner : Layout) (s : List ℕ) (at : ℕ) → reads_at (group t inner end) s at ≡ reads_at inner s (in_group t s at)
unfolding in_group after_tlv
read-last t inner s at = read_group t inner end s at ∙ last_head t inner s at (head_at s at) refl

-- ---- a chain of places: what the test at its end says of the layout at its start

-- reading a layout from a place on gives r. A record, so that the arguments are found and the proof of a chain names only what each call promises
pub record Gives (l : Layout) (s : List ℕ) (at : ℕ) (r : Bool) : Type 0 where
  pub given : r ≡ reads_at l s at

module _ {s : List ℕ} where
  pub then_end : {at : ℕ} → Gives end s at (eqb at (length s))
  then_end {at} = record { given = sym (read_end s at) }

  module _ {l : Layout} {at next : ℕ} {r : Bool} where
    pub then-field : {f : Field} → next ≡ after_field f s at → Gives l s next r → Gives (field f l) s at r
    then-field {f} e g = record { given = g.given ∙ rw e (sym (read_field f l s at)) }

    pub then-last : {t : ℕ} → next ≡ in_group t s at → Gives l s next r → Gives (group t l end) s at r
    then-last {t} e g = record { given = g.given ∙ rw e (sym (read-last t l s at)) }

    pub then-group : {t : ℕ} {inner : Layout} → next ≡ after_group t inner s at → Gives l s next r → Gives (group t inner l) s at r
    then-group {t} {inner} e g = record { given = g.given ∙ rw e (sym (read_group t inner l s at)) }

  -- past the end nothing is read
  pub then_lost : {l : Layout} {at : ℕ} → length s < at → Gives l s at false
  unfolding reads_at
  then_lost h = record { given = sym (simp (lt-leb _ _ h)) }

  -- SIGNED_DATA, with content or without
  pub then_signed : {l : Layout} {next : ℕ} {r : Bool} (at : ℕ) → next ≡ after_signed s at → Gives l s next r
      → r ≡ (reads_at (signed_data true l) s at || reads_at (signed_data false l) s at)
  then_signed {l} at e g =
      g.given
      ∙ rw (e, read_group signed_tag (signed_fields true) l s at, read_group signed_tag (signed_fields false) l s at)
      (either_test signed_tag (reads (signed_fields true)) (reads (signed_fields false)) l s at)

  pub from_front : {l : Layout} {r : Bool} → Gives l s 0 r → r ≡ reads l s
  from_front {l} g = g.given ∙ sym (reads_front l s)

-- ---- what stands before a place that lies in the stretch

-- a place that is found if a test says so
found : (b : Bool) (s : List ℕ) (at to : ℕ) → to ≡ cond b at (nowhere s) → to ≤ length s → (b ≡ true) × (to ≡ at)
found true s at to e h = (refl, e)
found false s at to e h = absurd (omega arith)

-- past the end is `nowhere`: so where the next place is in the stretch, what was looked for stands before it
module _ {s : List ℕ} {at to : ℕ} (h : to ≤ length s) where
  in_tlv : (t : ℕ) (o : Head) → head_at s at ≡ o → to ≡ in_head t s o → IsTlv s at t to (length s)
  in_tlv t (Found tag start stop) q e =
      let i = tlv-is s at tag start stop q in
      let p = found (eqb tag t && eqb stop (length s)) s start to e h in
      let g : tag ≡ t = eqb-true _ _ (and_left (eqb tag t) _ p.0) in
      let l : stop ≡ length s = eqb-true _ _ (and_right (eqb tag t) _ p.0) in
      rw (p.1, ← g, ← l) i
  in_tlv t Bad q e = absurd (omega arith)
  in_tlv t End q e = absurd (omega arith)

  pub in_before : (t : ℕ) → to ≡ in_group t s at → IsTlv s at t to (length s)
  unfolding in_group
  in_before t e = in_tlv t (head_at s at) refl e

  past-tlv : (t : ℕ) (p : List ℕ → Bool) (o : Head) → head_at s at ≡ o → to ≡ past_head t p s o
      → IsTlv s at t (at + 4) to × (p (between s (at + 4) to) ≡ true)
  past-tlv t p (Found tag start stop) q e =
      let i = tlv-is s at tag start stop q in
      let d = found (eqb tag t && p (between s start stop)) s stop to e h in
      let g : tag ≡ t = eqb-true _ _ (and_left (eqb tag t) _ d.0) in
      rw (d.1, ← g, ← i.start_is) (i, and_right (eqb tag t) _ d.0)
  past-tlv t p Bad q e = absurd (omega arith)
  past-tlv t p End q e = absurd (omega arith)

  pub tlv-before : (t : ℕ) (p : List ℕ → Bool) → to ≡ after_tlv t p s at → IsTlv s at t (at + 4) to × (p (between s (at + 4) to) ≡ true)
  unfolding after_tlv
  tlv-before t p e = past-tlv t p (head_at s at) refl e
