-- The outer tag alone names the command; the slots of the fields that commands list, what a command's listing says of each, and which child passes
-- or is taken.
-- Assumes nothing.
use mathlib.Core.Path.{◌≡◌, refl, sym, ap, ◌∙◌}
use mathlib.Core.Bool.{Bool, true, false, cond, ◌&&◌, ◌||◌}
use mathlib.Core.List.{List, [], ◌∷◌, ◌++◌, map}
use mathlib.Core.Option
use mathlib.Core.Option.{Option, none, some}
use Prim.Native.Nat.{ℕ, zero, suc, ◌≤◌, ◌<◌}
use native.Mathlib.Numerals.{lt_of_le_of_ne}
use native.Mathlib.Omega.{arith}
use lib.ListN.{length, take, get_or}
use lib.Dec.{leb, ltb, eqb}
use borrow.Author.Tests.{le-leb, lt-leb, leb-true, ltb-true, ltb-false, eqb-true, eqb-false, eq-eqb, ne_eqb}
use Rattle.model.specs.Lists.{all, first, select, eq_bytes}
use Rattle.model.specs.Tlv as model
use Rattle.model.specs.Tlv.{Tlv, critical, Field, key_handle, Listed, get_info, register, sign, deregister, open_settings, command_tag, kinds, kind_of, fields_of, rule_of, tag_of, fits, listed, child_ok, skippable}
use Rattle.model.proofs.Basics.{split, clash, and_left, and_right, all_below, below, NoneOf, impossible}
use Rattle.tlv.specs.Numbers.{num_at}
use Rattle.params.specs.Slots.{command_fields, slots, slot_field, place_of, slot_of, most_for, by_slot}
use Rattle.params.specs.Children.{child_passes, child_taken}

-- ---- which command it is

-- the command that an outer tag names
abbrev pub kind_with : ℕ → Option model.Kind
kind_with tag = first (select (λ k. eqb tag (command_tag k)) kinds)

pub kind-short : (s : List ℕ) → length s < 4 → none ≡ kind_of s
unfolding kind_of
kind-short s h = simp (lt-leb _ _ h)

pub kind-named : (s : List ℕ) {tag n : ℕ} → 4 ≤ length s → tag ≡ num_at 2 s 0 → tag ≡ n → kind_with n ≡ kind_of s
unfolding kind_of num_at
kind-named s h e i = rw (← i, e) (simp (le-leb _ _ h))

-- a tag that is none of the commands'
select_none : {K : Type 0} (tag : ℕ) (ks : List model.Kind) → NoneOf command_tag K tag ks
    → K × (select (λ k. eqb tag (command_tag k)) ks ≡ [])
select_none tag [] h = (h, refl)
select_none tag (k ∷ ks) h =
    let rest = select_none tag ks h in
    (rest.0.0, rw (ne_eqb tag (command_tag k) rest.0.1) rest.1)

pub names_none : (tag : ℕ) → NoneOf command_tag (Unit {0}) tag kinds → kind_with tag ≡ none
names_none tag k = ap first (select_none tag kinds k).1

pub kind_none : (s : List ℕ) {tag : ℕ} → 4 ≤ length s → tag ≡ num_at 2 s 0 → NoneOf command_tag (Unit {0}) tag kinds → none ≡ kind_of s
kind_none s {tag} h e k = sym (names_none tag k) ∙ kind-named s h e refl

-- ---- slots and tags

-- a number is none of those below another
abbrev pub NotBelow : ℕ → ℕ → Type 0
NotBelow x zero = Unit {0}
NotBelow x (suc n) = NotBelow x n × (x ≡ n → ⊥)

not-below : (x n : ℕ) → NotBelow x n → n ≤ x
not-below x zero h = omega arith
not-below x (suc n) h = lt_of_le_of_ne (not-below x n h.0) (λ e. h.1 (sym e))

-- the last of a list is what remains
get_d_last : {A : Type 0} (xs : List A) (x : A) (i : ℕ) → length xs ≤ i → get_or (xs ++ (x ∷ [])) i x ≡ x
get_d_last [] x zero h = refl
get_d_last [] x (suc i) h = refl
get_d_last (y ∷ xs) x zero h = absurd (omega arith)
get_d_last (y ∷ xs) x (suc i) h = get_d_last xs x i (omega arith)

slot_from : (slot : ℕ) → 9 ≤ slot → slot_field slot ≡ key_handle
slot_from slot h = get_d_last (take 9 command_fields) key_handle slot h

pub slot_last : (slot : ℕ) → NotBelow slot 9 → slot_field slot ≡ key_handle
slot_last slot k = slot_from slot (not-below slot 9 k)

-- a tag that is none of the fields'
place_none : {K : Type 0} (tag : ℕ) (fs : List Field) → NoneOf tag_of K tag fs → K × (place_of tag fs ≡ length fs)
place_none tag [] h = (h, refl)
place_none {K = K} tag (f ∷ fs) h =
    let rest = place_none {K = K × (tag ≡ tag_of f → ⊥)} tag fs h in
    (rest.0.0, rw (ne_eqb (tag_of f) tag (λ e. rest.0.1 (sym e))) (ap suc rest.1))

pub slot_none : (tag : ℕ) → NoneOf tag_of (Unit {0}) tag command_fields → slot_of tag ≡ slots
unfolding slot_of
slot_none tag h = (place_none tag command_fields h).1

place-most : (tag : ℕ) (fs : List Field) → place_of tag fs ≤ length fs
place-most tag [] = omega arith
place-most tag (f ∷ fs) =
    split (eqb (tag_of f) tag) (λ e. rw e (omega arith)) (λ e. rw e (omega (arith, place-most tag fs)))

pub slot_most : (tag : ℕ) → slot_of tag ≤ slots
unfolding slot_of
slot_most tag = place-most tag command_fields

place-tag : (tag : ℕ) (fs : List Field) (f : Field) → place_of tag fs < length fs → tag_of (get_or fs (place_of tag fs) f) ≡ tag
place-tag tag [] f h = absurd (omega arith)
place-tag tag (g ∷ fs) f h =
    split (eqb (tag_of g) tag)
    (λ e. rw e (eqb-true _ _ e))
    (λ e. rw e (place-tag tag fs f (omega (arith, rw e at h))))

-- a tag with a slot is that of the slot's field
pub slot_tag : (tag : ℕ) → slot_of tag < slots → tag_of (slot_field (slot_of tag)) ≡ tag
unfolding slot_of
slot_tag tag h = place-tag tag command_fields key_handle h

-- ---- the slots, one by one

-- of each command and each slot
pub at_kind : (p : model.Kind → ℕ → Bool) → all (λ k. all_below slots (p k)) kinds ≡ true → (k : model.Kind) (j : ℕ) → j < slots → p k j ≡ true
at_kind p e k j h = below slots (p k) (go k) j h
  where
    go : (k : model.Kind) → all_below slots (p k) ≡ true
    go get_info = search (and_left, e)
    go register = search (and_left, and_right, e)
    go sign = search (and_left, and_right, e)
    go deregister = search (and_left, and_right, e)
    go open_settings = search (and_left, and_right, e)

-- no two slots have one tag
pub slot_own : (j : ℕ) → j < slots → slot_of (tag_of (slot_field j)) ≡ j
unfolding slot_of
slot_own j h = eqb-true _ _ (below slots (λ i. eqb (slot_of (tag_of (slot_field i))) i) refl j h)

-- each is critical
slot_critical : (j : ℕ) → j < slots → critical (tag_of (slot_field j)) ≡ true
slot_critical j h = below slots (λ i. critical (tag_of (slot_field i))) refl j h

-- ---- how often a command must and may be given a slot's field

-- a listing at a slot
entry_in : (n : Field → ℕ) (fs : List Field) (i : ℕ) (f : Field) → i < length fs → get_or (map n fs ++ (0 ∷ [])) i 0 ≡ n (get_or fs i f)
entry_in n [] i f h = absurd (omega arith)
entry_in n (g ∷ fs) zero f h = refl
entry_in n (g ∷ fs) (suc i) f h = entry_in n fs i f (omega arith)

entry_past : (n : Field → ℕ) (fs : List Field) (i : ℕ) → length fs ≤ i → get_or (map n fs ++ (0 ∷ [])) i 0 ≡ 0
entry_past n [] zero h = refl
entry_past n [] (suc i) h = refl
entry_past n (g ∷ fs) zero h = absurd (omega arith)
entry_past n (g ∷ fs) (suc i) h = entry_past n fs i (omega arith)

pub entry_at : (n : Field → ℕ) (slot : ℕ) → slot < slots → get_or (by_slot n) slot 0 ≡ n (slot_field slot)
entry_at n slot h = entry_in n command_fields slot key_handle h

-- how many places there are for a slot's values
abbrev pub room : ℕ → ℕ
room slot = cond (eqb slot 9) 8 1

room_most : (slot : ℕ) → room slot ≤ 8
room_most slot = split (eqb slot 9) (λ e. rw e (omega arith)) (λ e. rw e (omega arith))

-- they are enough for every command
pub most-room : (k : model.Kind) (j : ℕ) → j < slots → most_for k (slot_field j) ≤ room j
unfolding most_for
most-room k j h = leb-true _ _ (at_kind (λ k i. leb (most_for k (slot_field i)) (room i)) refl k j h)

-- ---- whether a value obeys the rule of a slot's field

-- the one byte of an index
pub index_byte : (v : List ℕ) → length v ≡ 1 → eqb (get_or v 0 0) 0 ≡ eq_bytes (0 ∷ []) v
unfolding eq_bytes
index_byte [] e = absurd (omega arith)
index_byte (x ∷ []) e =
    split (eqb x 0) (λ d. d ∙ sym (rw (eqb-true x 0 d))) (λ d. d ∙ sym (rw (ne_eqb 0 x (λ z. eqb-false x 0 d (sym z)))))
index_byte (x ∷ y ∷ v) e = absurd (omega arith)

-- of any other value but a username's and a KeyID's nothing is asked but its length
pub any_value : (slot : ℕ) (v : List ℕ) → (slot ≡ 0 → ⊥) → (slot ≡ 3 → ⊥) → (slot ≡ 6 → ⊥) → (rule_of (slot_field slot)).allowed v ≡ true
any_value slot v h n k =
    split (ltb slot slots)
    (λ e. let test : (eqb slot 0 || (eqb slot 3 || (eqb slot 6 || (rule_of (slot_field slot)).allowed v))) ≡ true =
    below slots (λ j. eqb j 0 || (eqb j 3 || (eqb j 6 || (rule_of (slot_field j)).allowed v))) refl slot (ltb-true _ _ e) in
    rw (ne_eqb slot 0 h, ne_eqb slot 3 n, ne_eqb slot 6 k) at test)
    (λ e. let past : slots ≤ slot = ltb-false _ _ e in rw (slot_from slot (omega arith)))

-- the place lies within, so what reading past the end would give is open
pub map_at : {A B : Type 0} (f : A → B) (xs : List A) (i : ℕ) (a : A) (b : B) → i < length xs → f (get_or xs i a) ≡ get_or (map f xs) i b
map_at f [] i a b h = absurd (omega arith)
map_at f (x ∷ xs) zero a b h = refl
map_at f (x ∷ xs) (suc i) a b h = map_at f xs i a b (omega arith)

-- ---- which fields a command lists

-- the field that a command lists with a tag
abbrev field_with : model.Kind → ℕ → Option Field
field_with k tag = Option.map (λ (l : Listed). l.field) (listed (fields_of k) tag)

-- it lists the fields that it may be given
abbrev field_if : ℕ → Field → Option Field
field_if most f = cond (eqb most 0) none (some f)

fields-are : (k : model.Kind) → map (λ f. field_with k (tag_of f)) command_fields ≡ map (λ f. field_if (most_for k f) f) command_fields
unfolding most_for
fields-are get_info = refl
fields-are register = refl
fields-are sign = refl
fields-are deregister = refl
fields-are open_settings = refl

field_at : (k : model.Kind) (slot : ℕ) → slot < slots
    → field_with k (tag_of (slot_field slot)) ≡ field_if (most_for k (slot_field slot)) (slot_field slot)
field_at k slot h =
    map_at (λ f. field_with k (tag_of f)) command_fields slot key_handle none h
    ∙ ap (λ (fs : List (Option Field)). get_or fs slot none) (fields-are k)
    ∙ sym (map_at (λ f. field_if (most_for k f) f) command_fields slot key_handle none h)

-- every listed field has a slot
slotted : (k : model.Kind) → all (λ l. ltb (slot_of (tag_of l.field)) slots) (fields_of k) ≡ true
unfolding slot_of
slotted get_info = refl
slotted register = refl
slotted sign = refl
slotted deregister = refl
slotted open_settings = refl

none_listed : (ls : List Listed) (tag : ℕ) → all (λ l. ltb (slot_of (tag_of l.field)) slots) ls ≡ true → slots ≤ slot_of tag
    → listed ls tag ≡ none
none_listed [] tag e h = refl
none_listed (l ∷ ls) tag e h =
    let here : Bool = ltb (slot_of (tag_of l.field)) slots in
    split (eqb (tag_of l.field) tag)
    (λ d. let k : slot_of (tag_of l.field) < slots = ltb-true _ _ (and_left here _ e) in
    absurd (omega (arith, ap slot_of (eqb-true (tag_of l.field) tag d))))
    (λ d. rw d (none_listed ls tag (and_right here _ e) h))

-- ---- whether a child passes

ok-listed : (c : Tlv) (o : Option Listed) (f : Field) → Option.map (λ (l : Listed). l.field) o ≡ some f → child_ok c o ≡ fits f c.value
ok-listed c none f e = impossible cc
ok-listed c (some l) f e = let same : l.field ≡ f = cc in rw same

ok_unlisted : (c : Tlv) (o : Option Listed) → Option.map (λ (l : Listed). l.field) o ≡ none → child_ok c o ≡ skippable c
ok_unlisted c none e = refl
ok_unlisted c (some l) e = impossible cc

-- what a command's listing says at the slot of a child's tag
module _ (k : model.Kind) (c : Tlv) {slot most : ℕ} (s : slot ≡ slot_of c.tag) (m : most ≡ get_or (by_slot (most_for k)) slot 0) where
  tag_is : slot < slots → tag_of (slot_field slot) ≡ c.tag
  tag_is h = rw s (slot_tag c.tag (rw s at h))

  child_field : slot < slots → field_with k c.tag ≡ field_if most (slot_field slot)
  child_field h = rw (← tag_is h, m, entry_at (most_for k) slot h) (field_at k slot h)

  -- a child that the command does not list
  passes_never : most ≡ 0 → child_passes k c ≡ skippable c
  unfolding child_passes
  passes_never n =
      split (ltb slot slots)
      (λ e. ok_unlisted c (listed (fields_of k) c.tag) (child_field (ltb-true _ _ e) ∙ rw n))
      (λ e. let h : slots ≤ slot = ltb-false _ _ e in rw (none_listed (fields_of k) c.tag (slotted k) (rw s at h)))

  -- one that it lists
  module _ (n : most ≡ 0 → ⊥) where
    pub listed-slot : slot < slots
    listed-slot = split (ltb slot slots) (ltb-true _ _) (λ e. absurd (n (m ∙ entry_past (most_for k) command_fields slot (ltb-false _ _ e))))

    pub listed-most : most ≡ most_for k (slot_field slot)
    listed-most = m ∙ entry_at (most_for k) slot listed-slot

    passes-listed : child_passes k c ≡ fits (slot_field slot) c.value
    unfolding child_passes
    passes-listed = ok-listed c (listed (fields_of k) c.tag) (slot_field slot) (child_field listed-slot ∙ rw (ne_eqb _ _ n))

  -- ---- whether it is taken

  module _ (n : ℕ) where
    taken-never : most ≡ 0 → child_taken slot most n c ≡ skippable c
    unfolding child_taken
    taken-never z = simp (eq-eqb _ _ z)

    taken-listed : (most ≡ 0 → ⊥) → child_taken slot most n c ≡ (ltb n most && fits (slot_field slot) c.value)
    unfolding child_taken
    taken-listed z = simp (ne_eqb _ _ z)

    -- one that is taken passes
    pub taken-passes : child_taken slot most n c ≡ true → child_passes k c ≡ true
    taken-passes e =
        split (eqb most 0)
        (λ z. let y = eqb-true _ _ z in passes_never y ∙ sym (taken-never y) ∙ e)
        (λ z. let y = eqb-false _ _ z in passes-listed y ∙ and_right (ltb n most) _ (sym (taken-listed y) ∙ e))

    -- and is not too many
    pub taken-few : child_taken slot most n c ≡ true → (most ≡ 0 → ⊥) → n < most
    taken-few e z = ltb-true _ _ (and_left (ltb n most) _ (sym (taken-listed z) ∙ e))

    -- it obeys its field's rule
    pub taken-fits : child_taken slot most n c ≡ true → (most ≡ 0 → ⊥) → fits (slot_field slot) c.value ≡ true
    taken-fits e z = and_right (ltb n most) _ (sym (taken-listed z) ∙ e)

    -- and there is a place for it
    pub taken-room : child_taken slot most n c ≡ true → (most ≡ 0 → ⊥) → n < room slot
    taken-room e z = omega (arith, taken-few e z, listed-most z, most-room k slot (listed-slot z))

    -- or its tag has no slot, since every slot's is critical
    pub taken-past : child_taken slot most n c ≡ true → most ≡ 0 → slots ≤ slot
    taken-past e z =
        split (ltb slot slots)
        (λ h. let l = ltb-true _ _ h in
        let d : critical c.tag ≡ true = rw (← tag_is l) (slot_critical slot l) in
        clash (sym (taken-never z) ∙ e) (rw d))
        (λ h. ltb-false _ _ h)

    -- one that is not taken does not pass, or is too many
    pub not_taken : {G : Type 0} → child_taken slot most n c ≡ false → (child_passes k c ≡ false → G)
        → ((most ≡ 0 → ⊥) → most ≤ n → G) → G
    not_taken e f g =
        split (eqb most 0)
        (λ z. let y = eqb-true _ _ z in f (passes_never y ∙ sym (taken-never y) ∙ e))
        (λ z. let y = eqb-false _ _ z in
        split (ltb n most)
        (λ l. f (passes-listed y ∙ sym (rw l at (taken-listed y)) ∙ e))
        (λ l. g y (ltb-false _ _ l)))

-- there is a place for one that is taken and noted
pub taken_place : (k : model.Kind) (c : Tlv) (n : ℕ) {slot most : ℕ} {b : Bool} → slot ≡ slot_of c.tag
    → most ≡ get_or (by_slot (most_for k)) slot 0 → b ≡ child_taken slot most n c → b ≡ true → 0 < most → (n < 8) × (slot < slots)
taken_place k c n {slot} {most} s m told passes h =
    let z : most ≡ 0 → ⊥ = λ e. omega arith in (
      omega (arith, taken-room k c s m n (sym told ∙ passes) z, room_most slot),
      listed-slot k c s m z,
    )
