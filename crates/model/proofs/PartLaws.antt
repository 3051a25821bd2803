-- The parts of a written layout: each TLV of it, in order, at its place.
-- Assumes nothing.
use mathlib.Core.Path.{◌≡◌, refl, sym, ap, ◌∙◌}
use mathlib.Core.Bool.{Bool, true, false, not, ◌&&◌}
use mathlib.Core.List.{List, [], ◌∷◌, ◌++◌, map, append_assoc, append-nil, map-append, map-map, map-id}
use Prim.Native.Nat.{ℕ, zero, suc, ◌+◌, ◌-◌, ◌≤◌, ◌<◌}
use native.Mathlib.Omega.{arith}
use lib.ListN.{length, take, drop, get_or, length-append, length-drop}
use lib.Seq.{take_at, take_all, drop_at, take-add}
use lib.Dec.{ltb}
use borrow.Author.Tests.{not-true}
use Rattle.model.specs.Lists.{select}
use Rattle.model.specs.Tlv.{le, header, Tlv, tlv, bytes, Field, tag_of}
use Rattle.model.specs.Layouts.{Layout, end, field, group, size, fill, write}
use Rattle.model.specs.Reader.{Part, holds, spread, parts_at, parts, field_parts, cut}
use Rattle.model.proofs.Basics.{and_left, and_right, clash, split, select-append}
use Rattle.model.proofs.Tlvs.{length-bytes}
use Rattle.model.proofs.LayoutLaws.{fit_all, tags_ok, most, fit_field, fit_group, tlvs-fill}

-- what a part shows: its tag, its value's place and length, its value, and its TLV with the four header bytes
pub record View : Type 0 where
  pub tag : ℕ
  pub place : ℕ
  pub size : ℕ
  pub value : List ℕ
  pub whole : List ℕ

abbrev pub view : List ℕ → Part → View
view s p =
    record {
      tag = p.tag;
      place = p.place;
      size = p.size;
      value = cut s p;
      whole = take (p.size + 4) (drop (p.place - 4) s);
    }

-- a TLV that starts at a place
abbrev pub shown : ℕ → Tlv → View
shown at t = record { tag = t.tag; place = at + 4; size = length t.value; value = t.value; whole = bytes (t ∷ []) }

-- every TLV of a layout with these values that starts at a place, each followed by those in it
unfoldable pub nodes : ℕ → Layout → List (List ℕ) → List View
nodes at end vs = []
nodes at (field f l) vs =
    let v : List ℕ = get_or vs 0 [] in
    shown at (tlv (tag_of f) v) ∷ nodes (at + 4 + length v) l (drop 1 vs)
nodes at (group t inner l) vs =
    let v : List ℕ = bytes (fill inner vs) in
    shown at (tlv t v) ∷ (nodes (at + 4) inner vs ++ nodes (at + 4 + length v) l (drop (size inner) vs))

-- those that hold no other
abbrev pub leaves : ℕ → Layout → List (List ℕ) → List View
leaves at l vs = select (λ v. not (holds v.tag)) (nodes at l vs)

-- ---- a layout none of whose tags passes a test

abbrev pub lacks : (ℕ → Bool) → Layout → Bool
lacks q end = true
lacks q (field f l) = not (q (tag_of f)) && lacks q l
lacks q (group t inner l) = not (q t) && (lacks q inner && lacks q l)

pub none_such : (q : ℕ → Bool) (at : ℕ) (l : Layout) (vs : List (List ℕ)) → lacks q l ≡ true
    → select (λ v. q v.tag) (nodes at l vs) ≡ []
unfolding nodes
none_such q at end vs e = refl
none_such q at (field f l) vs e =
    rw (not-true (q (tag_of f)) (and_left (not (q (tag_of f))) _ e)) (none_such q _ l (drop 1 vs) (and_right (not (q (tag_of f))) _ e))
none_such q at (group t inner l) vs e =
    let r : (lacks q inner && lacks q l) ≡ true = and_right (not (q t)) _ e in
    rw (
      not-true (q t) (and_left (not (q t)) _ e),
      select-append (λ v. q v.tag) (nodes (at + 4) inner vs) (nodes (at + 4 + length (bytes (fill inner vs))) l (drop (size inner) vs)),
      none_such q (at + 4) inner vs (and_left (lacks q inner) _ r),
    )
    (none_such q _ l (drop (size inner) vs) (and_right (lacks q inner) _ r))

-- ---- a layout whose groups, and only they, have tags that hold others, at most n levels deep

abbrev pub honest : ℕ → Layout → Bool
honest n end = true
honest zero (field f l) = false
honest (suc n) (field f l) = not (holds (tag_of f)) && honest (suc n) l
honest zero (group t inner l) = false
honest (suc n) (group t inner l) = holds t && (honest n inner && honest (suc n) l)

-- ---- what stands where

abbrev part_of : ℕ → Tlv → Part
part_of at t = record { tag = t.tag; place = at + 4; size = length t.value }

abbrev head : Tlv → List ℕ
head t = header t.tag (length t.value)

-- bytes that stand at a place of a stretch
record Stands (s : List ℕ) (at : ℕ) (v : List ℕ) : Type 0 where
  before : List ℕ
  after : List ℕ
  place : length before ≡ at
  all : s ≡ before ++ (v ++ after)

found : {s v : List ℕ} {at n : ℕ} → Stands s at v → length v ≡ n → take n (drop at s) ≡ v
found {v = v} {at} {n} h q = rw (h.all, drop_at h.before (v ++ h.after) at h.place, take_at v h.after n q)

-- where a run of TLVs stands, so do the first TLV, its value, and the rest of the run
module _ {s : List ℕ} {at : ℕ} (t : Tlv) (ts : List Tlv) (h : Stands s at (bytes (t ∷ ts))) where
  stands-first : Stands s at (bytes (t ∷ []))
  unfolding bytes
  stands-first = record { before = h.before; after = bytes ts ++ h.after; place = h.place; all = h.all ∙ simp append_assoc }

  stands-value : Stands s (at + 4) t.value
  unfolding bytes le
  stands-value =
      record {
        before = h.before ++ head t;
        after = bytes ts ++ h.after;
        place = rw length-append (omega (arith, h.place));
        all = h.all ∙ simp append_assoc;
      }

  stands-rest : Stands s (at + 4 + length t.value) (bytes ts)
  unfolding bytes le
  stands-rest =
      record {
        before = h.before ++ (head t ++ t.value);
        after = h.after;
        place = rw length-append (omega (arith, h.place));
        all = h.all ∙ simp append_assoc;
      }

  view-one : view s (part_of at t) ≡ shown at t
  unfolding bytes
  view-one =
      let z : at + 4 - 4 ≡ at = omega arith in
      let v : cut s (part_of at t) ≡ t.value = found stands-value refl in
      let n : length (bytes (t ∷ [])) ≡ length t.value + 4 = length-bytes t [] ∙ omega arith in
      let w : take (length t.value + 4) (drop (at + 4 - 4) s) ≡ bytes (t ∷ []) = rw z (found stands-first n) in
      cc

-- ---- the parts of a writing

-- what is asked of a layout and its values
record Fine (n : ℕ) (l : Layout) (vs : List (List ℕ)) : Type 0 where
  tags_right : honest n l ≡ true
  fit : fit_all l vs ≡ true
  tags-small : tags_ok l ≡ true
  small : most l < 65536

fine_field : {n : ℕ} {f : Field} {l : Layout} {vs : List (List ℕ)} → Fine (suc n) (field f l) vs
    → (holds (tag_of f) ≡ false) × Fine (suc n) l (drop 1 vs)
fine_field {n} {f} {l} {vs} h = (
  not-true (holds (tag_of f)) (and_left (not (holds (tag_of f))) _ h.tags_right),
  record {
    tags_right = and_right (not (holds (tag_of f))) _ h.tags_right;
    fit = (fit_field f l vs h.fit).1;
    tags-small = and_right (ltb (tag_of f) 65536) _ h.tags-small;
    small = omega (arith, h.small);
  },
)

fine_group : {n t : ℕ} {inner l : Layout} {vs : List (List ℕ)} → Fine (suc n) (group t inner l) vs
    → (holds t ≡ true) × Fine n inner vs × Fine (suc n) l (drop (size inner) vs)
fine_group {n} {t} {inner} {l} {vs} h =
    let r = and_right (holds t) _ h.tags_right in
    let a : tags_ok inner ≡ true = search (and_left, and_right) in
    let b : tags_ok l ≡ true = search (and_left, and_right) in (
      and_left (holds t) _ h.tags_right,
      record {
        tags_right = and_left (honest n inner) _ r;
        fit = (fit_group t inner l vs h.fit).0;
        tags-small = a;
        small = omega (arith, h.small);
      },
      record {
        tags_right = and_right (honest n inner) _ r;
        fit = (fit_group t inner l vs h.fit).1;
        tags-small = b;
        small = omega (arith, h.small);
      },
    )

-- what holds of the run of a layout holds of its bytes
deeper : (n at : ℕ) (l : Layout) (vs : List (List ℕ)) (s : List ℕ) → Fine n l vs
    → ((m : ℕ) → Fine (suc m) l vs → map (view s) (spread (parts_at m) at (fill l vs)) ≡ nodes at l vs)
    → map (view s) (parts_at n at (bytes (fill l vs))) ≡ nodes at l vs
unfolding parts_at nodes
deeper zero at end vs s h f = refl
deeper zero at (field g l) vs s h f = clash h.tags_right refl
deeper zero at (group t inner l) vs s h f = clash h.tags_right refl
deeper (suc n) at l vs s h f = rw (tlvs-fill l vs h.fit h.tags-small h.small) (f n h)

-- a run that stands at a place
level : (n : ℕ) (l : Layout) (vs : List (List ℕ)) {s : List ℕ} {at : ℕ} → Fine (suc n) l vs → Stands s at (bytes (fill l vs))
    → map (view s) (spread (parts_at n) at (fill l vs)) ≡ nodes at l vs
unfolding fill nodes
level n end vs h k = refl
level n (field f l) vs h k =
    let t : Tlv = tlv (tag_of f) (get_or vs 0 []) in
    let ts : List Tlv = fill l (drop 1 vs) in
    rw (fine_field h).0 (cc (view-one t ts k, level n l (drop 1 vs) (fine_field h).1 (stands-rest t ts k)))
level n (group g inner l) vs {s} {at} h k =
    let t : Tlv = tlv g (bytes (fill inner vs)) in
    let ts : List Tlv = fill l (drop (size inner) vs) in
    let f = fine_group h in
    let i = deeper n (at + 4) inner vs s f.1 (λ m j. level m inner vs j (stands-value t ts k)) in
    let r = level n l (drop (size inner) vs) f.2 (stands-rest t ts k) in
    rw (f.0, map-append (view s) (parts_at n (at + 4) (bytes (fill inner vs))) (spread (parts_at n) (at + 4 + length t.value) ts))
    (cc (view-one t ts k, i, r))

-- the parts of a writing show its TLVs
pub parts_shown : (l : Layout) (vs : List (List ℕ)) → honest 5 l ≡ true → fit_all l vs ≡ true → tags_ok l ≡ true → most l < 65536
    → map (view (write l vs)) (parts (write l vs)) ≡ nodes 0 l vs
unfolding write parts
parts_shown l vs h e t m =
    let f : Fine 5 l vs = record { tags_right = h; fit = e; tags-small = t; small = m } in
    let s : List ℕ = bytes (fill l vs) in
    let k : Stands s 0 s = record { before = []; after = []; place = refl; all = sym (append-nil s) } in
    deeper 5 0 l vs s f (λ n g. level n l vs g k)

-- ---- of parts that show these

select-map : {A B : Type 0} (p : B → Bool) (f : A → B) (xs : List A) → map f (select (λ x. p (f x)) xs) ≡ select p (map f xs)
select-map p f [] = refl
select-map p f (x ∷ xs) = split (p (f x)) (λ e. cc (select-map p f xs)) (λ e. cc (select-map p f xs))

module _ (s : List ℕ) (ps : List Part) (vs : List View) (e : map (view s) ps ≡ vs) where
  -- those with certain tags show those with these tags
  pub shown_select : (q : ℕ → Bool) → map (view s) (select (λ p. q p.tag) ps) ≡ select (λ v. q v.tag) vs
  shown_select q = select-map (λ v. q v.tag) (view s) ps ∙ ap (select (λ v. q v.tag)) e

  pub shown_as : {A : Type 0} (f : View → A) → map (λ p. f (view s p)) ps ≡ map f vs
  shown_as f = sym (map-map f (view s) ps) ∙ ap (map f) e

-- ---- the fields

abbrev part : View → Part
part v = record { tag = v.tag; place = v.place; size = v.size }

-- the fields of a layout with these values, in order, the first TLV of which starts at a place
unfoldable pub fields_at : ℕ → Layout → List (List ℕ) → List Part
fields_at at end vs = []
fields_at at (field f l) vs =
    let v : List ℕ = get_or vs 0 [] in
    record { tag = tag_of f; place = at + 4; size = length v } ∷ fields_at (at + 4 + length v) l (drop 1 vs)
fields_at at (group t inner l) vs =
    fields_at (at + 4) inner vs ++ fields_at (at + 4 + length (bytes (fill inner vs))) l (drop (size inner) vs)

-- they show these parts and these values
record Shows (ps : List Part) (vs : List (List ℕ)) (ls : List View) : Type 0 where
  as_parts : map part ls ≡ ps
  values : map (λ v. v.value) ls ≡ vs

shows_more : {ps qs : List Part} {vs ws : List (List ℕ)} {ls ms : List View} → Shows ps vs ls → Shows qs ws ms
    → Shows (ps ++ qs) (vs ++ ws) (ls ++ ms)
shows_more a b =
    record { as_parts = simp map-append (cc (a.as_parts, b.as_parts)); values = simp map-append (cc (a.values, b.values)) }

leaves_show : (n at : ℕ) (l : Layout) (vs : List (List ℕ)) → honest n l ≡ true → size l ≤ length vs
    → Shows (fields_at at l vs) (take (size l) vs) (leaves at l vs)
unfolding nodes fields_at
leaves_show n at end vs h k = record { as_parts = refl; values = refl }
leaves_show zero at (field f l) vs h k = clash h refl
leaves_show (suc n) at (field f l) [] h k = absurd (omega arith)
leaves_show (suc n) at (field f l) (v ∷ vs) h k =
    let one : View = shown at (tlv (tag_of f) v) in
    rw (and_left (not (holds (tag_of f))) _ h)
    (shows_more {ps = part one ∷ []} {vs = v ∷ []} {ls = one ∷ []} (record { as_parts = refl; values = refl })
    (leaves_show (suc n) (at + 4 + length v) l vs (and_right (not (holds (tag_of f))) _ h) (omega arith)))
leaves_show zero at (group t inner l) vs h k = clash h refl
leaves_show (suc n) at (group t inner l) vs h k =
    let next : ℕ = at + 4 + length (bytes (fill inner vs)) in
    let rest : List (List ℕ) = drop (size inner) vs in
    let r = and_right (holds t) _ h in
    rw (
      and_left (holds t) _ h,
      select-append (λ v. not (holds v.tag)) (nodes (at + 4) inner vs) (nodes next l rest),
      take-add (size inner) (size l) vs,
    )
    (shows_more (leaves_show n (at + 4) inner vs (and_left (honest n inner) _ r) (omega arith))
    (leaves_show (suc n) next l rest (and_right (honest n inner) _ r) (rw length-drop (omega arith))))

module _ (l : Layout) (vs : List (List ℕ)) (h : honest 5 l ≡ true) (e : fit_all l vs ≡ true) (t : tags_ok l ≡ true) (m : most l < 65536) where
  pub fields_shown : map (view (write l vs)) (field_parts (write l vs)) ≡ leaves 0 l vs
  unfolding field_parts
  fields_shown = shown_select (write l vs) (parts (write l vs)) (nodes 0 l vs) (parts_shown l vs h e t m) (λ g. not (holds g))

  module _ (n : length vs ≡ size l) where
    -- the fields of a writing, with their places
    pub fields-exact : field_parts (write l vs) ≡ fields_at 0 l vs
    fields-exact =
        sym (map-id (field_parts (write l vs))) ∙ shown_as (write l vs) (field_parts (write l vs)) (leaves 0 l vs) fields_shown part
        ∙ (leaves_show 5 0 l vs h (omega (arith, n))).as_parts

    -- and the values that stand there
    pub fields_back : map (cut (write l vs)) (field_parts (write l vs)) ≡ vs
    fields_back =
        shown_as (write l vs) (field_parts (write l vs)) (leaves 0 l vs) fields_shown (λ v. v.value)
        ∙ (leaves_show 5 0 l vs h (omega (arith, n))).values ∙ take_all (size l) vs (omega (arith, n))
