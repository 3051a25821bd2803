-- What a layout reads, taken apart TLV by TLV: how long it is, how many fields it has, which tags its parts lack. Nothing is asked of the bytes.
-- Assumes nothing.
use mathlib.Core.Path.{◌≡◌, refl, sym, ap, ◌∙◌}
use mathlib.Core.Bool.{Bool, true, false, not, cond}
use mathlib.Core.List.{List, [], ◌∷◌, ◌++◌}
use mathlib.Core.Option.{Option, none, some, map-eq-some_iff}
use Prim.Native.Nat.{ℕ, zero, suc, ◌+◌, ◌≤◌, zero-le}
use native.Mathlib.Omega.{arith}
use lib.ListN.{length, take, drop, length-append, take-append-drop}
use lib.Seq.{length-take-le}
use lib.Dec.{eqb}
use borrow.Author.Tests.{eqb-true, not-true}
use Rattle.model.specs.Lists.{select}
use Rattle.model.specs.Tlv.{num, Tlv, tlv, tlvs, tlvs_past, is_run, Field, rule_of, tag_of, fits}
use Rattle.model.specs.Layouts.{Layout, end, field, group, size, matches, reads}
use Rattle.model.specs.Reader.{holds, parts_at, parts, field_parts}
use Rattle.model.proofs.Basics.{clash, and_left, and_right, select-append, impossible}
use Rattle.model.proofs.LayoutLaws.{most, fits-most, fits-least}
use Rattle.model.proofs.PartLaws.{honest, lacks}

-- ---- a run, taken apart

-- a stretch is a TLV, of which the four header bytes are known, and then a run
pub record Front (t : Tlv) (ts : List Tlv) (s : List ℕ) : Type 0 where
  pub a : ℕ
  pub b : ℕ
  pub c : ℕ
  pub d : ℕ
  pub after : List ℕ
  pub spelled : s ≡ a ∷ b ∷ c ∷ d ∷ (t.value ++ after)
  pub tag_is : num (a ∷ b ∷ []) ≡ t.tag
  pub length-is : num (c ∷ d ∷ []) ≡ length t.value
  pub whole : tlvs s ≡ some (t ∷ ts)
  pub run : tlvs after ≡ some ts

-- bytes that are passed over before a run are there
past : (k : ℕ) (s : List ℕ) (ts : List Tlv) → tlvs_past k s ≡ some ts → (k ≤ length s) × (tlvs (drop k s) ≡ some ts)
unfolding tlvs_past
past zero s ts e = (zero-le, e)
past (suc k) [] ts e = impossible cc
past (suc k) (x ∷ s) ts e = let p = past k s ts e in (omega (arith, p.0), p.1)

run_none : (s : List ℕ) → tlvs s ≡ some [] → s ≡ []
unfolding tlvs_past
run_none [] e = refl
run_none (a ∷ []) e = cc
run_none (a ∷ b ∷ []) e = cc
run_none (a ∷ b ∷ c ∷ []) e = cc
run_none (a ∷ b ∷ c ∷ d ∷ s) e =
    let f : List Tlv → List Tlv = λ ts. tlv (num (a ∷ b ∷ [])) (take (num (c ∷ d ∷ [])) s) ∷ ts in
    let m = (map-eq-some_iff f (tlvs_past (num (c ∷ d ∷ [])) s) {b = []}).0 e in
    cc m.2

front : (s : List ℕ) (t : Tlv) (ts : List Tlv) → tlvs s ≡ some (t ∷ ts) → Front t ts s
unfolding tlvs_past
front [] t ts e = impossible cc
front (a ∷ []) t ts e = impossible cc
front (a ∷ b ∷ []) t ts e = impossible cc
front (a ∷ b ∷ c ∷ []) t ts e = impossible cc
front (a ∷ b ∷ c ∷ d ∷ s) t ts e =
    let n : ℕ = num (c ∷ d ∷ []) in
    let m = (map-eq-some_iff _ _).0 e in
    let p = past n s m.0 m.1 in
    let v : take n s ≡ t.value = cc m.2 in
    record {
      a = a;
      b = b;
      c = c;
      d = d;
      after = drop n s;
      spelled = rw (← v, take-append-drop n s);
      tag_is = cc m.2;
      length-is = rw (← v) (sym (length-take-le n s p.0));
      whole = e;
      run = cc (p.1, m.2);
    }

-- ---- what a layout reads

-- TLV by TLV, the values of groups too
pub data Layered : Layout → List ℕ → Type 0 where
  nothing : Layered end []
  one : {f : Field} {l : Layout} {t : Tlv} {ts : List Tlv} {s : List ℕ} (p : Front t ts s) → t.tag ≡ tag_of f → fits f t.value ≡ true
      → Layered l p.after → Layered (field f l) s
  many : {g : ℕ} {inner l : Layout} {t : Tlv} {ts : List Tlv} {s : List ℕ} (p : Front t ts s) → t.tag ≡ g → Layered inner t.value
      → Layered l p.after → Layered (group g inner l) s

run_some : (p : List Tlv → Bool) (o : Option (List Tlv)) → is_run p o ≡ true → (ts : List Tlv) × (o ≡ some ts) × (p ts ≡ true)
run_some p none e = clash e refl
run_some p (some ts) e = (ts, refl, e)

layers : (l : Layout) (s : List ℕ) (ts : List Tlv) → tlvs s ≡ some ts → matches l ts ≡ true → Layered l s
unfolding matches
layers end s [] e m = rw (run_none s e) nothing
layers end s (t ∷ ts) e m = clash m refl
layers (field f l) s [] e m = clash m refl
layers (field f l) s (t ∷ ts) e m =
    let g : eqb t.tag (tag_of f) ≡ true = search (and_left, and_right) in
    let h : fits f t.value ≡ true = search (and_left, and_right) in
    let r : matches l ts ≡ true = search (and_left, and_right) in
    let p = front s t ts e in
    one p (eqb-true _ _ g) h (layers l p.after ts p.run r)
layers (group g inner l) s [] e m = clash m refl
layers (group g inner l) s (t ∷ ts) e m =
    let h : eqb t.tag g ≡ true = search (and_left, and_right) in
    let k : is_run (matches inner) (tlvs t.value) ≡ true = search (and_left, and_right) in
    let r : matches l ts ≡ true = search (and_left, and_right) in
    let p = front s t ts e in
    let u = run_some (matches inner) (tlvs t.value) k in
    many p (eqb-true _ _ h) (layers inner t.value u.0 u.1 u.2) (layers l p.after ts p.run r)

pub layered : (l : Layout) (s : List ℕ) → reads l s ≡ true → Layered l s
unfolding reads
layered l s e = let u = run_some (matches l) (tlvs s) e in layers l s u.0 u.1 u.2

-- ---- how long it is

pub length_front : {t : Tlv} {ts : List Tlv} {s : List ℕ} (p : Front t ts s) → length s ≡ 4 + length t.value + length p.after
length_front p = ap length p.spelled ∙ simp length-append (omega arith)

-- the fewest bytes that a layout can take
abbrev pub least : Layout → ℕ
least end = 0
least (field f l) = 4 + (rule_of f).least + least l
least (group t inner l) = 4 + least inner + least l

measured : {l : Layout} {s : List ℕ} → Layered l s → (least l ≤ length s) × (length s ≤ most l)
measured nothing = (zero-le, zero-le)
measured (one {f = f} {t = t} p e h r) =
    let n = length_front p in
    let i = measured r in
    let j = fits-least f t.value h in
    let k = fits-most f t.value h in
    (omega arith, omega arith)
measured (many p e q r) =
    let n = length_front p in
    let i = measured q in
    let j = measured r in
    (omega arith, omega arith)

pub reads-least : (l : Layout) (s : List ℕ) → reads l s ≡ true → least l ≤ length s
reads-least l s e = (measured (layered l s e)).0

pub reads-most : (l : Layout) (s : List ℕ) → reads l s ≡ true → length s ≤ most l
reads-most l s e = (measured (layered l s e)).1

-- ---- its parts

-- those of the first TLV, then those of the run after it
pub parts_front : (n at : ℕ) {t : Tlv} {ts : List Tlv} {s : List ℕ} (p : Front t ts s)
    → parts_at (suc n) at s
    ≡ (record { tag = t.tag; place = at + 4; size = length t.value } ∷ cond (holds t.tag) (parts_at n (at + 4) t.value) [])
    ++ parts_at (suc n) (at + 4 + length t.value) p.after
unfolding parts_at
parts_front n at p = rw (p.whole, p.run)

pub parts_nothing : (n at : ℕ) → parts_at n at [] ≡ []
unfolding parts_at tlvs_past
parts_nothing zero at = refl
parts_nothing (suc n) at = refl

-- what an honest layout says of its first TLV, of what is in it, and of the rest
pub honest_field : (n : ℕ) (f : Field) (l : Layout) → honest (suc n) (field f l) ≡ true
    → (holds (tag_of f) ≡ false) × (honest (suc n) l ≡ true)
honest_field n f l h =
    (not-true (holds (tag_of f)) (and_left (not (holds (tag_of f))) _ h), and_right (not (holds (tag_of f))) _ h)

pub honest_group : (n g : ℕ) (inner l : Layout) → honest (suc n) (group g inner l) ≡ true
    → (holds g ≡ true) × (honest n inner ≡ true) × (honest (suc n) l ≡ true)
honest_group n g inner l h =
    let r = and_right (holds g) _ h in
    (and_left (holds g) _ h, and_left (honest n inner) _ r, and_right (honest n inner) _ r)

-- where no tag of the layout passes a test, no part's does
lack : (q : ℕ → Bool) (n at : ℕ) {l : Layout} {s : List ℕ} → Layered l s → honest n l ≡ true → lacks q l ≡ true
    → select (λ p. q p.tag) (parts_at n at s) ≡ []
lack q n at nothing h e = rw (parts_nothing n at)
lack q zero at (one p g i r) h e = clash h refl
lack q zero at (many p g i r) h e = clash h refl
lack q (suc n) at (one {f = f} {l = l} p g i r) h e =
    let k = honest_field n f l h in
    rw (parts_front n at p, g, k.0, not-true (q (tag_of f)) (and_left (not (q (tag_of f))) _ e))
    (lack q (suc n) _ r k.1 (and_right (not (q (tag_of f))) _ e))
lack q (suc n) at (many {g = g} {inner = inner} {l = l} {t = t} p j i r) h e =
    let k = honest_group n g inner l h in
    let x = and_right (not (q g)) _ e in
    rw (
      parts_front n at p,
      j,
      k.0,
      not-true (q g) (and_left (not (q g)) _ e),
      select-append (λ p. q p.tag) (parts_at n (at + 4) t.value) (parts_at (suc n) (at + 4 + length t.value) p.after),
      lack q n (at + 4) i k.1 (and_left (lacks q inner) _ x),
    )
    (lack q (suc n) _ r k.2 (and_right (lacks q inner) _ x))

pub lacks_none : (q : ℕ → Bool) (l : Layout) (s : List ℕ) → honest 5 l ≡ true → lacks q l ≡ true → reads l s ≡ true
    → select (λ p. q p.tag) (parts s) ≡ []
unfolding parts
lacks_none q l s h e r = lack q 5 0 (layered l s r) h e

-- there are as many fields among its parts as the layout has
number : (n at : ℕ) {l : Layout} {s : List ℕ} → Layered l s → honest n l ≡ true
    → length (select (λ p. not (holds p.tag)) (parts_at n at s)) ≡ size l
number n at nothing h = rw (parts_nothing n at)
number zero at (one p g i r) h = clash h refl
number zero at (many p g i r) h = clash h refl
number (suc n) at (one {f = f} {l = l} p g i r) h =
    let k = honest_field n f l h in
    rw (parts_front n at p, g, k.0) (ap suc (number (suc n) _ r k.1))
number (suc n) at (many {g = g} {inner = inner} {l = l} {t = t} p j i r) h =
    let k = honest_group n g inner l h in
    rw (
      parts_front n at p,
      j,
      k.0,
      select-append (λ p. not (holds p.tag)) (parts_at n (at + 4) t.value) (parts_at (suc n) (at + 4 + length t.value) p.after),
      length-append,
      number n (at + 4) i k.1,
    )
    (ap (λ (m : ℕ). size inner + m) (number (suc n) _ r k.2))

pub fields-number : (l : Layout) (s : List ℕ) → honest 5 l ≡ true → reads l s ≡ true → length (field_parts s) ≡ size l
unfolding parts field_parts
fields-number l s h r = number 5 0 (layered l s r) h
