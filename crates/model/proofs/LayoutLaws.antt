-- Layouts: what is written by a layout is read by it, and what is read by it was written by it.
-- Assumes nothing.
use mathlib.Core.Path.{◌≡◌, refl, ap, ◌∙◌}
use mathlib.Core.Bool.{Bool, true, ◌&&◌}
use mathlib.Core.List.{List, [], ◌∷◌, ◌++◌}
use Prim.Native.Nat.{ℕ, zero, suc, ◌+◌, ◌≤◌, ◌<◌}
use native.Mathlib.Omega.{arith}
use mathlib.Core.Option.{Option, none, some}
use lib.ListN.{length, drop, get_or, length-append, length-drop}
use lib.Seq.{drop-append-le, drop_at}
use lib.Dec.{leb, ltb, eqb}
use borrow.Author.Tests.{leb-true, ltb-true, le-leb, eqb-true, eq-eqb}
use Rattle.model.specs.Tlv.{Bytes, Tlv, tlv, bytes, tlvs, is_run, Field, rule_of, tag_of, fits}
use Rattle.model.specs.Layouts.{Layout, end, field, group, size, fill, write, matches, reads}
use Rattle.model.proofs.Tlvs.{Sized, Held, length-bytes, tlvs-bytes, bytes-tlvs, Read, bytes_run}
use Rattle.model.proofs.Basics.{and_left, and_right, both, clash}

-- these values fit the layout's fields
unfoldable pub fit_all : Layout → List (List ℕ) → Bool
fit_all end vs = true
fit_all (field f l) vs = fits f (get_or vs 0 []) && fit_all l (drop 1 vs)
fit_all (group t inner l) vs = fit_all inner vs && fit_all l (drop (size inner) vs)

-- its tags are of 16 bits
abbrev pub tags_ok : Layout → Bool
tags_ok end = true
tags_ok (field f l) = ltb (tag_of f) 65536 && tags_ok l
tags_ok (group t inner l) = ltb t 65536 && tags_ok inner && tags_ok l

-- the most bytes that it can take
abbrev pub most : Layout → ℕ
most end = 0
most (field f l) = 4 + (rule_of f).most + most l
most (group t inner l) = 4 + most inner + most l

abbrev pub AllBytes : List (List ℕ) → Type 0
AllBytes [] = Unit {0}
AllBytes (v ∷ vs) = Bytes v × AllBytes vs

pub fits-most : (f : Field) (v : List ℕ) → fits f v ≡ true → length v ≤ (rule_of f).most
unfolding fits
fits-most f v e =
    let h : leb (length v) (rule_of f).most ≡ true = search (and_left, and_right) in
    leb-true _ _ h

pub fits-least : (f : Field) (v : List ℕ) → fits f v ≡ true → (rule_of f).least ≤ length v
unfolding fits
fits-least f v e =
    let h : leb (rule_of f).least (length v) ≡ true = search (and_left, and_right) in
    leb-true _ _ h

pub fits-allowed : (f : Field) (v : List ℕ) → fits f v ≡ true → (rule_of f).allowed v ≡ true
unfolding fits
fits-allowed f v e = and_right (leb (rule_of f).least (length v) && leb (length v) (rule_of f).most) _ e

pub size_fits : (f : Field) (v : List ℕ) → (rule_of f).least ≤ length v → length v ≤ (rule_of f).most → (rule_of f).allowed v ≡ true
    → fits f v ≡ true
unfolding fits
size_fits f v a b p = both (both (le-leb _ _ a) (le-leb _ _ b)) p

pub fit_field : (f : Field) (l : Layout) (vs : List (List ℕ)) → fit_all (field f l) vs ≡ true
    → (fits f (get_or vs 0 []) ≡ true) × (fit_all l (drop 1 vs) ≡ true)
unfolding fit_all
fit_field f l vs e = (and_left (fits f (get_or vs 0 [])) _ e, and_right (fits f (get_or vs 0 [])) _ e)

pub fit_group : (g : ℕ) (inner l : Layout) (vs : List (List ℕ)) → fit_all (group g inner l) vs ≡ true
    → (fit_all inner vs ≡ true) × (fit_all l (drop (size inner) vs) ≡ true)
unfolding fit_all
fit_group g inner l vs e = (and_left (fit_all inner vs) _ e, and_right (fit_all inner vs) _ e)

-- ---- what is written is read

length-fill : (l : Layout) (vs : List (List ℕ)) → fit_all l vs ≡ true → length (bytes (fill l vs)) ≤ most l
unfolding fill bytes
length-fill end vs e = omega arith
length-fill (field f l) vs e =
    let h = fits-most f (get_or vs 0 []) (fit_field f l vs e).0 in
    let k = length-fill l (drop 1 vs) (fit_field f l vs e).1 in
    rw (length-bytes (tlv (tag_of f) (get_or vs 0 [])) (fill l (drop 1 vs))) (omega (arith, h, k))
length-fill (group g inner l) vs e =
    let h = length-fill inner vs (fit_group g inner l vs e).0 in
    let k = length-fill l (drop (size inner) vs) (fit_group g inner l vs e).1 in
    rw (length-bytes (tlv g (bytes (fill inner vs))) (fill l (drop (size inner) vs))) (omega (arith, h, k))

sized-fill : (l : Layout) (vs : List (List ℕ)) → fit_all l vs ≡ true → tags_ok l ≡ true → most l < 65536 → Sized (fill l vs)
unfolding fill
sized-fill end vs e t m = tt
sized-fill (field f l) vs e t m =
    let h = fits-most f (get_or vs 0 []) (fit_field f l vs e).0 in
    let w : ltb (tag_of f) 65536 ≡ true = and_left _ (tags_ok l) t in
    let r : tags_ok l ≡ true = and_right (ltb (tag_of f) 65536) _ t in
    (ltb-true _ _ w, omega arith, sized-fill l (drop 1 vs) (fit_field f l vs e).1 r (omega arith))
sized-fill (group g inner l) vs e t m =
    let h = length-fill inner vs (fit_group g inner l vs e).0 in
    let w : ltb g 65536 ≡ true = search (and_left, and_right) in
    let r : tags_ok l ≡ true = search (and_left, and_right) in
    (ltb-true _ _ w, omega arith, sized-fill l (drop (size inner) vs) (fit_group g inner l vs e).1 r (omega arith))

-- a run is what its bytes are read as
pub tlvs-fill : (l : Layout) (vs : List (List ℕ)) → fit_all l vs ≡ true → tags_ok l ≡ true → most l < 65536
    → tlvs (bytes (fill l vs)) ≡ some (fill l vs)
tlvs-fill l vs e t m = tlvs-bytes (fill l vs) (sized-fill l vs e t m)

pub matches-fill : (l : Layout) (vs : List (List ℕ)) → fit_all l vs ≡ true → tags_ok l ≡ true → most l < 65536
    → matches l (fill l vs) ≡ true
unfolding fill matches
matches-fill end vs e t m = refl
matches-fill (field f l) vs e t m =
    let r : tags_ok l ≡ true = and_right (ltb (tag_of f) 65536) _ t in
    both (both (eq-eqb (tag_of f) (tag_of f) refl) (fit_field f l vs e).0) (matches-fill l (drop 1 vs) (fit_field f l vs e).1 r (omega arith))
matches-fill (group g inner l) vs e t m =
    let w : tags_ok inner ≡ true = search (and_left, and_right) in
    let r : tags_ok l ≡ true = search (and_left, and_right) in
    let i = matches-fill inner vs (fit_group g inner l vs e).0 w (omega arith) in
    both (both (eq-eqb g g refl) (rw (tlvs-fill inner vs (fit_group g inner l vs e).0 w (omega arith)) i))
    (matches-fill l (drop (size inner) vs) (fit_group g inner l vs e).1 r (omega arith))

pub length-write : (l : Layout) (vs : List (List ℕ)) → fit_all l vs ≡ true → length (write l vs) ≤ most l
unfolding write
length-write l vs e = length-fill l vs e

pub reads-write : (l : Layout) (vs : List (List ℕ)) → fit_all l vs ≡ true → tags_ok l ≡ true → most l < 65536 → reads l (write l vs) ≡ true
unfolding write reads
reads-write l vs e t m = rw (tlvs-fill l vs e t m) (matches-fill l vs e t m)

-- ---- what is read was written

-- a layout takes its values from the front
pub fill_front : (l : Layout) (vs ws : List (List ℕ)) → size l ≤ length vs → fill l (vs ++ ws) ≡ fill l vs
unfolding fill
fill_front end vs ws n = refl
fill_front (field f l) [] ws n = absurd (omega arith)
fill_front (field f l) (v ∷ vs) ws n = rw (fill_front l vs ws (omega arith))
fill_front (group g inner l) vs ws n =
    let h : size inner ≤ length vs = omega arith in
    rw (drop-append-le (size inner) vs ws h, fill_front inner vs ws h)
    (ap (λ (ts : List Tlv). tlv g (bytes (fill inner vs)) ∷ ts) (fill_front l (drop (size inner) vs) ws (rw length-drop (omega arith))))

pub fit_all_front : (l : Layout) (vs ws : List (List ℕ)) → size l ≤ length vs → fit_all l (vs ++ ws) ≡ fit_all l vs
unfolding fit_all
fit_all_front end vs ws n = refl
fit_all_front (field f l) [] ws n = absurd (omega arith)
fit_all_front (field f l) (v ∷ vs) ws n = rw (fit_all_front l vs ws (omega arith))
fit_all_front (group g inner l) vs ws n =
    let h : size inner ≤ length vs = omega arith in
    rw (drop-append-le (size inner) vs ws h, fit_all_front inner vs ws h)
    (ap (λ (b : Bool). fit_all inner vs && b) (fit_all_front l (drop (size inner) vs) ws (rw length-drop (omega arith))))

all-bytes : (vs ws : List (List ℕ)) → AllBytes vs → AllBytes ws → AllBytes (vs ++ ws)
all-bytes [] ws h k = k
all-bytes (v ∷ vs) ws h k = (h.0, all-bytes vs ws h.1 k)

pub record Matched (l : Layout) (ts : List Tlv) : Type 0 where
  pub values : List (List ℕ)
  pub fit : fit_all l values ≡ true
  pub number : length values ≡ size l
  pub held : AllBytes values
  pub filled : fill l values ≡ ts

retag : (t : Tlv) (g : ℕ) → t.tag ≡ g → tlv g t.value ≡ t
retag t g e = rw (← e)

matched_field : (f : Field) (l : Layout) (t : Tlv) (ts : List Tlv) → Bytes t.value → t.tag ≡ tag_of f → fits f t.value ≡ true
    → Matched l ts → Matched (field f l) (t ∷ ts)
unfolding fit_all fill
matched_field f l t ts b g h m =
    record {
      values = t.value ∷ m.values;
      fit = both h m.fit;
      number = ap suc m.number;
      held = (b, m.held);
      filled = rw (retag t (tag_of f) g, m.filled);
    }

matched_group : (g : ℕ) (inner l : Layout) (t : Tlv) (us ts : List Tlv) → t.tag ≡ g → bytes us ≡ t.value → Matched inner us
    → Matched l ts → Matched (group g inner l) (t ∷ ts)
unfolding fit_all fill
matched_group g inner l t us ts e w m n =
    let h : size inner ≤ length m.values = omega (arith, m.number) in
    let d : drop (size inner) (m.values ++ n.values) ≡ n.values = drop_at m.values n.values (size inner) m.number in
    record {
      values = m.values ++ n.values;
      fit = both (fit_all_front inner m.values n.values h ∙ m.fit) (rw d n.fit);
      number = rw length-append (omega (arith, m.number, n.number));
      held = all-bytes m.values n.values m.held n.held;
      filled = rw (fill_front inner m.values n.values h, m.filled, w, retag t g e, d, n.filled);
    }

-- a stretch that is a run, taken apart
run_of : (p : List Tlv → Bool) (s : List ℕ) (o : Option (List Tlv)) → Bytes s → tlvs s ≡ o → is_run p o ≡ true
    → (us : List Tlv) × Read s us × (p us ≡ true)
run_of p s none b e h = clash h refl
run_of p s (some us) b e h = (us, bytes-tlvs s us b e, h)

pub matched : (l : Layout) (ts : List Tlv) → Held ts → matches l ts ≡ true → Matched l ts
unfolding matches fit_all fill
matched end [] b e = record { values = []; fit = refl; number = refl; held = tt; filled = refl }
matched end (t ∷ ts) b e = clash e refl
matched (field f l) [] b e = clash e refl
matched (field f l) (t ∷ ts) b e =
    let g : eqb t.tag (tag_of f) ≡ true = search (and_left, and_right) in
    let h : fits f t.value ≡ true = search (and_left, and_right) in
    let r : matches l ts ≡ true = search (and_left, and_right) in
    matched_field f l t ts b.0 (eqb-true _ _ g) h (matched l ts b.1 r)
matched (group g inner l) [] b e = clash e refl
matched (group g inner l) (t ∷ ts) b e =
    let h : eqb t.tag g ≡ true = search (and_left, and_right) in
    let k : is_run (matches inner) (tlvs t.value) ≡ true = search (and_left, and_right) in
    let r : matches l ts ≡ true = search (and_left, and_right) in
    let u = run_of (matches inner) t.value (tlvs t.value) b.0 refl k in
    matched_group g inner l t u.0 ts (eqb-true _ _ h) u.1.written (matched inner u.0 u.1.held u.2) (matched l ts b.1 r)

-- what a layout reads is what it writes for some values that fit
pub record Filled (l : Layout) (s : List ℕ) : Type 0 where
  pub values : List (List ℕ)
  pub fit : fit_all l values ≡ true
  pub number : length values ≡ size l
  pub held : AllBytes values
  pub written : write l values ≡ s

pub reads-written : (l : Layout) (s : List ℕ) → Bytes s → reads l s ≡ true → Filled l s
unfolding write reads
reads-written l s b e =
    let u = run_of (matches l) s (tlvs s) b refl e in
    let m = matched l u.0 u.1.held u.2 in
    record { values = m.values; fit = m.fit; number = m.number; held = m.held; written = ap bytes m.filled ∙ u.1.written }

-- ---- values that are bytes

pub first-bytes : (vs : List (List ℕ)) → AllBytes vs → Bytes (get_or vs 0 [])
first-bytes [] b = tt
first-bytes (v ∷ vs) b = b.0

pub rest-bytes : (n : ℕ) (vs : List (List ℕ)) → AllBytes vs → AllBytes (drop n vs)
rest-bytes zero vs b = b
rest-bytes (suc n) [] b = tt
rest-bytes (suc n) (v ∷ vs) b = rest-bytes n vs b.1

held_fill : (l : Layout) (vs : List (List ℕ)) → AllBytes vs → Held (fill l vs)
unfolding fill
held_fill end vs b = tt
held_fill (field f l) vs b = (first-bytes vs b, held_fill l (drop 1 vs) (rest-bytes 1 vs b))
held_fill (group g inner l) vs b =
    (bytes_run (fill inner vs) (held_fill inner vs b), held_fill l (drop (size inner) vs) (rest-bytes (size inner) vs b))

pub write_bytes : (l : Layout) (vs : List (List ℕ)) → AllBytes vs → Bytes (write l vs)
unfolding write
write_bytes l vs b = bytes_run (fill l vs) (held_fill l vs b)
