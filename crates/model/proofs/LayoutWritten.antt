-- What it is for a stretch to be the writing of one of some layouts, and what follows: its length, its first tag, and that it is read.
-- Assumes nothing.
use mathlib.Core.Path.{◌≡◌, refl, sym, ◌∙◌}
use mathlib.Core.Bool.{Bool, true, not, ◌&&◌}
use mathlib.Core.List.{List, [], ◌∷◌, map, Memᴰ}
use mathlib.Core.Option.{Option, none, some}
use Prim.Native.Nat.{ℕ, zero, suc, ◌≤◌, ◌<◌}
use native.Mathlib.Omega.{arith}
use lib.ListN.{length, get_or}
use lib.Dec.{leb, eqb}
use borrow.Author.Tests.{leb-true, eqb-true}
use Rattle.model.specs.Lists.{all, any, select, distinct}
use Rattle.model.specs.Tlv.{le, Tlv, tlvs, is_run, tag_of}
use Rattle.model.specs.Layouts.{Layout, end, field, group, size, write, matches, reads}
use Rattle.model.specs.Commands.{least_output}
use Rattle.model.specs.Reader.{responses, holds, field_parts, listed_keys, is_handle}
use Rattle.model.proofs.Basics.{split, clash, and_left, and_right, select_comm, Each}
use Rattle.model.proofs.LayoutLaws.{fit_all, tags_ok, most, length-write, reads-write}
use Rattle.model.proofs.PartLaws.{nodes, leaves, lacks, none_such, honest, fields_shown, shown_select, shown_as}

-- ---- an element of a list

module _ {A : Type 0} where
  pub member : (i : ℕ) (d : A) (xs : List A) → i < length xs → Memᴰ (get_or xs i d) xs
  member i d [] h = absurd (omega arith)
  member zero d (x ∷ xs) h = Memᴰ.head refl
  member (suc i) d (x ∷ xs) h = Memᴰ.tail (member i d xs (omega arith))

  pub all_member : (p : A → Bool) {x : A} {xs : List A} → Memᴰ x xs → all p xs ≡ true → p x ≡ true
  all_member p (Memᴰ.head {x = y} e) h = rw e (and_left (p y) _ h)
  all_member p (Memᴰ.tail {x = y} m) h = all_member p m (and_right (p y) _ h)

  any_member : (p : A → Bool) {x : A} {xs : List A} → Memᴰ x xs → p x ≡ true → any p xs ≡ true
  any_member p (Memᴰ.head {x = y} e) h = rw (rw e at h)
  any_member p (Memᴰ.tail {x = y} m) h = split (p y) (λ e. rw e) (λ e. rw e (any_member p m h))

  pub any_found : (p : A → Bool) (xs : List A) → any p xs ≡ true → (x : A) × Memᴰ x xs × (p x ≡ true)
  any_found p [] h = clash h refl
  any_found p (y ∷ xs) h =
      split (p y) (λ e. (y, Memᴰ.head refl, e))
      (λ e. let (x, m, f) = any_found p xs (rw e at h) in (x, Memᴰ.tail m, f))

  pub each_member : (P : A → Type 0) {x : A} {xs : List A} → Memᴰ x xs → Each P xs → P x
  each_member P (Memᴰ.head e) h = rw e h.0
  each_member P (Memᴰ.tail m) h = each_member P m h.1

-- ---- the tag of the first TLV

abbrev pub outer_tag : Layout → ℕ
outer_tag end = 0
outer_tag (field f l) = tag_of f
outer_tag (group t inner l) = t

abbrev first_tag : List Tlv → ℕ
first_tag [] = 0
first_tag (t ∷ ts) = t.tag

matches-tag : (l : Layout) (ts : List Tlv) → matches l ts ≡ true → first_tag ts ≡ outer_tag l
unfolding matches
matches-tag end [] e = refl
matches-tag end (t ∷ ts) e = clash e refl
matches-tag (field f l) [] e = clash e refl
matches-tag (field f l) (t ∷ ts) e = let g : eqb t.tag (tag_of f) ≡ true = search (and_left, and_right) in eqb-true _ _ g
matches-tag (group g inner l) [] e = clash e refl
matches-tag (group g inner l) (t ∷ ts) e = let h : eqb t.tag g ≡ true = search (and_left, and_right) in eqb-true _ _ h

-- layouts that read one stretch have one outer tag
pub one_tag : (l m : Layout) (s : List ℕ) → reads l s ≡ true → reads m s ≡ true → outer_tag l ≡ outer_tag m
unfolding reads
one_tag l m s p q = go (tlvs s) p q
  where
    go : (o : Option (List Tlv)) → is_run (matches l) o ≡ true → is_run (matches m) o ≡ true → outer_tag l ≡ outer_tag m
    go none p q = clash p refl
    go (some ts) p q = sym (matches-tag l ts p) ∙ matches-tag m ts q

-- ---- a stretch that is the writing of one of some layouts

pub record WrittenBy (ls : List Layout) (l : Layout) (vs : List (List ℕ)) (s : List ℕ) : Type 0 where
  pub listed : Memᴰ l ls
  pub fit : fit_all l vs ≡ true
  pub number : length vs ≡ size l
  pub written : write l vs ≡ s

-- a layout that fits the output
abbrev pub small : Layout → Bool
small l = tags_ok l && leb (most l) least_output

-- all of them do
module _ {ls : List Layout} (a : all small ls ≡ true) {l : Layout} {vs : List (List ℕ)} {s : List ℕ} (w : WrittenBy ls l vs s) where
  pub written-tags : tags_ok l ≡ true
  written-tags = and_left _ (leb (most l) least_output) (all_member small w.listed a)

  pub written-most : most l ≤ least_output
  written-most = leb-true _ _ (and_right (tags_ok l) _ (all_member small w.listed a))

  pub written-length : length s ≤ least_output
  written-length = rw (← w.written) (omega (arith, written-most, length-write l vs w.fit))

  pub written-reads : any (λ l. reads l s) ls ≡ true
  written-reads =
      any_member (λ l. reads l s) w.listed
      (rw (← w.written) (reads-write l vs w.fit written-tags (omega (arith, written-most))))

-- every response fits
pub responses-small : all small responses ≡ true
unfolding le
responses-small = refl

-- ---- signed structures and key handles

-- the key handles among these values
abbrev pub keys_in : Layout → List (List ℕ) → List (List ℕ)
keys_in l vs = map (λ v. v.value) (select (λ v. is_handle v.tag) (leaves 0 l vs))

pub no_keys : (l : Layout) (vs : List (List ℕ)) → lacks is_handle l ≡ true → distinct (keys_in l vs) ≡ true
no_keys l vs e = rw (select_comm (λ v. is_handle v.tag) (λ v. not (holds v.tag)) (nodes 0 l vs), none_such is_handle 0 l vs e)

pub keys-listed : (l : Layout) (vs : List (List ℕ)) → honest 5 l ≡ true → fit_all l vs ≡ true → tags_ok l ≡ true → most l < 65536
    → listed_keys (write l vs) ≡ keys_in l vs
keys-listed l vs h e t m =
    let s : List ℕ = write l vs in
    shown_as s (select (λ p. is_handle p.tag) (field_parts s)) (select (λ v. is_handle v.tag) (leaves 0 l vs))
    (shown_select s (field_parts s) (leaves 0 l vs) (fields_shown l vs h e t m) is_handle) (λ v. v.value)
