-- The rules for a command in words, and that the fields of one that breaks none fit theirs.
-- Assumes nothing.
use mathlib.Core.Path.{◌≡◌, refl}
use mathlib.Core.Bool.{Bool, true, false, not}
use mathlib.Core.List.{List, [], ◌∷◌}
use mathlib.Core.Option
use mathlib.Core.Option.{Option, none, some}
use Prim.Native.Nat.{ℕ, ◌+◌, ◌≤◌}
use native.Mathlib.Omega.{arith}
use lib.ListN.{length, take, drop, get_or}
use lib.Dec.{leb, eqb}
use borrow.Author.Tests.{eqb-true, eq-eqb, leb-true, le-leb, not-true}
use Rattle.model.specs.Lists.{all, select, first}
use Rattle.model.specs.Tlv.{num, Tlv, tlvs, critical, composite, well_formed, max_command, fills, Field, tag_of, fits, Kind, Listed, mandatory, fields_of, child_ok, listed, values_of, times_ok, children_ok, children, is_run, broken, fields_in, field_in}
use Rattle.model.proofs.Basics.{split, clash, and_left, and_right, both, not-not, Each, all-each, each_all, impossible}

-- the children of a command that is not broken
pub record Unbroken (k : Kind) (s : List ℕ) : Type 0 where
  pub held : List Tlv
  pub read : children s ≡ some held
  pub child : all (λ c. child_ok c (listed (fields_of k) c.tag)) held ≡ true
  pub times : all (times_ok held) (fields_of k) ≡ true

pub unbroken : (k : Kind) (s : List ℕ) → broken k s ≡ false → Unbroken k s
unfolding broken children_ok
unbroken k s e = go (children s) refl (and_right (leb (length s) _) _ (not-not _ e))
  where
    go : (o : Option (List Tlv)) → children s ≡ o → is_run (children_ok (fields_of k)) o ≡ true → Unbroken k s
    go none p q = clash q refl
    go (some ts) p q =
        let children-ok : Bool = all (λ c. child_ok c (listed (fields_of k) c.tag)) ts in
        record { held = ts; read = p; child = and_left children-ok _ q; times = and_right children-ok _ q }

all_first : {A : Type 0} (p q : A → Bool) (xs : List A) {x : A} → all p xs ≡ true → first (select q xs) ≡ some x → p x ≡ true
all_first p q [] e f = impossible cc
all_first p q (y ∷ xs) {x} e f =
    split (q y)
    (λ h. let g : y ≡ x = cc in rw g at (and_left (p y) _ e))
    (λ h. all_first p q xs (and_right (p y) _ e) (rw h at f))

-- the values of a listed field
pub values_fit : (fs : List Listed) (f : Field) (l : Listed) → listed fs (tag_of f) ≡ some l → (ts : List Tlv)
    → all (λ c. child_ok c (listed fs c.tag)) ts ≡ true → all (fits l.field) (values_of f ts) ≡ true
values_fit fs f l h [] e = refl
values_fit fs f l h (c ∷ ts) e =
    let ok : Bool = child_ok c (listed fs c.tag) in
    let here : ok ≡ true = and_left ok _ e in
    let ih : all (fits l.field) (values_of f ts) ≡ true = values_fit fs f l h ts (and_right ok _ e) in
    split (eqb c.tag (tag_of f))
    (λ t. rw t (both (rw (eqb-true c.tag (tag_of f) t, h) at here) ih))
    (λ t. rw t ih)

module _ (k : Kind) (s : List ℕ) (f : Field) (b : broken k s ≡ false) where
  -- every value of a listed field fits its rule
  pub each_fits : (l : Listed) → listed (fields_of k) (tag_of f) ≡ some l → all (fits l.field) (fields_in f s) ≡ true
  unfolding fields_in
  each_fits l h =
      let u : Unbroken k s = unbroken k s b in
      rw u.read (values_fit (fields_of k) f l h u.held u.child)

  -- it is given as often as it may be, and where it must be
  pub given-times : (l : Listed) → listed (fields_of k) (tag_of f) ≡ some l → times_ok (Option.get_or (children s) []) l ≡ true
  given-times l h =
      let u : Unbroken k s = unbroken k s b in
      rw u.read (all_first (times_ok u.held) (λ g. eqb (tag_of g.field) (tag_of f)) (fields_of k) u.times h)

  -- the first value of a mandatory field fits its rule
  pub field_fits : listed (fields_of k) (tag_of f) ≡ some (mandatory f) → fits f (field_in f s) ≡ true
  unfolding field_in fields_in
  field_fits h =
      go (fields_in f s) (each_fits (mandatory f) h)
      (leb-true _ _ (and_left (leb 1 (length (fields_in f s))) _ (given-times (mandatory f) h)))
    where
      go : (vs : List (List ℕ)) → all (fits f) vs ≡ true → 1 ≤ length vs → fits f (get_or vs 0 []) ≡ true
      go [] e n = absurd (omega arith)
      go (v ∷ vs) e n = and_left (fits f v) _ e

-- ---- the rules under "TLV bytes", in words

-- a child obeys its field's rule if the command lists it, else it is skipped
pub data Allowed (k : Kind) (c : Tlv) : Type 0 where
  obeys : (l : Listed) → listed (fields_of k) c.tag ≡ some l → fits l.field c.value ≡ true → Allowed k c
  skipped : listed (fields_of k) c.tag ≡ none → critical c.tag ≡ false
      → (composite c.tag ≡ true → well_formed 6 c.value ≡ true) → Allowed k c

-- at most 8,192 bytes; its TLV ends with them; its value is a run of children, each of them allowed, and each listed one given as often as it
-- must and may be
pub record CommandRules (k : Kind) (s : List ℕ) : Type 0 where
  pub short : length s ≤ 8192
  pub ends : 4 + num (take 2 (drop 2 s)) ≡ length s
  pub held : List Tlv
  pub run : tlvs (drop 4 s) ≡ some held
  pub each : Each (Allowed k) held
  pub times : Each (λ l. (l.least ≤ length (values_of l.field held)) × (length (values_of l.field held) ≤ l.most)) (fields_of k)

allowed : (k : Kind) (c : Tlv) → child_ok c (listed (fields_of k) c.tag) ≡ true → Allowed k c
allowed k c e = go (listed (fields_of k) c.tag) refl e
  where
    go : (o : Option Listed) → listed (fields_of k) c.tag ≡ o → child_ok c o ≡ true → Allowed k c
    go none p q =
        skipped p (not-true _ (and_left (not (critical c.tag)) _ q))
        (λ m. rw m at (and_right (not (critical c.tag)) _ q))
    go (some l) p q = obeys l p q

child-ok : (k : Kind) (c : Tlv) → Allowed k c → child_ok c (listed (fields_of k) c.tag) ≡ true
child-ok k c (obeys l p q) = rw p q
child-ok k c (skipped p q r) = rw (p, q) (split (composite c.tag) (λ e. rw e (r e)) (λ e. rw e))

-- a command that breaks no rule obeys them
pub command_rules : (k : Kind) (s : List ℕ) → broken k s ≡ false → CommandRules k s
unfolding broken children
command_rules k s b =
    let u : Unbroken k s = unbroken k s b in
    let n : leb (length s) max_command ≡ true = and_left (leb (length s) max_command) _ (not-not _ b) in
    split (fills s)
    (λ f. record {
      short = leb-true _ _ n;
      ends = eqb-true _ _ f;
      held = u.held;
      run = rw f at u.read;
      each = all-each _ (Allowed k) (allowed k) u.held u.child;
      times =
          all-each (times_ok u.held) _
          (λ l e. (leb-true _ _ (and_left (leb l.least _) _ e), leb-true _ _ (and_right (leb l.least _) _ e)))
          (fields_of k) u.times;
    })
    (λ f. let g : none ≡ some u.held = rw f at u.read in impossible cc)

-- and one that obeys them breaks none
pub command-ok : (k : Kind) (s : List ℕ) → CommandRules k s → broken k s ≡ false
unfolding broken children children_ok
command-ok k s r =
    let c = each_all (λ c. child_ok c (listed (fields_of k) c.tag)) (Allowed k) (child-ok k) r.held r.each in
    let t = each_all (times_ok r.held) _ (λ l e. both (le-leb _ _ e.0) (le-leb _ _ e.1)) (fields_of k) r.times in
    rw (le-leb _ _ r.short, eq-eqb _ _ r.ends, r.run, c, t)
