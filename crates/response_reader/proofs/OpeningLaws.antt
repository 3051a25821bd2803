-- How every response starts: with the header of its outer TLV and the header of a status of two bytes.
-- Assumes nothing.
use mathlib.Core.Path.{◌≡◌, refl, sym, ap, ◌∙◌}
use mathlib.Core.Bool.{Bool, true, false, cond, ◌&&◌}
use mathlib.Core.List.{List, [], ◌∷◌, ◌++◌, map, append_assoc, append-nil}
use Prim.Native.Nat.{ℕ, zero, suc, ◌+◌, ◌-◌, ◌*◌, ◌/◌, ◌%◌, ◌≤◌, ◌<◌}
use native.Mathlib.Omega.{arith}
use lib.ListN.{length, take, drop, get_or, length-drop}
use lib.Seq.{take_at}
use lib.Dec.{leb, ltb, eqb}
use borrow.Author.Tests.{leb-true, le-leb, lt-leb, eqb-true, eqb-false, eq-eqb, ne_eqb, ltb-true}
use Rattle.model.specs.Lists.{all, any, eq_bytes, among}
use Rattle.model.specs.Tlv.{num, le, Field, ok, status_among, rule_of, tag_of, fits}
use Rattle.model.specs.Layouts.{Layout, end, field, group, reads}
use Rattle.model.proofs.Basics.{split, clash, and_left, and_right, both}
use Rattle.model.proofs.LayoutLaws.{fits-least, fits-most}
use Rattle.tlv.specs.Numbers.{num_at}
use Rattle.tlv.specs.Heads.{head_at}
use Rattle.tlv.specs.declared.heads.Head.TheVariants.{Tlv as Found}
use Rattle.tlv.proofs.HeadLaws.{head_tlv}
use Rattle.layouts.specs.Places.{nowhere, reads_at, obeys, after_field, in_group}
use Rattle.layouts.proofs.PlaceLaws.{past_head_lem, read_end, read_field, read-last, reads_front}
use Rattle.layouts.proofs.SizeLaws.{Layered, nothing, one, many, length_front}
use Rattle.response_reader.specs.Responses.{headed, Opened}

-- ---- the two headers

pub record Headed (s : List ℕ) : Type 0 where
  pub long : 10 ≤ length s
  pub whole : num_at 2 s 2 ≡ length s - 4
  pub status : num_at 2 s 4 ≡ tag_of ok
  pub two : num_at 2 s 6 ≡ 2

pub headed-is : {s : List ℕ} → headed s ≡ true → Headed s
unfolding headed
headed-is {s} e =
    let a : leb 10 (length s) ≡ true = search (and_left, and_right) in
    let b : eqb (num_at 2 s 2) (length s - 4) ≡ true = search (and_left, and_right) in
    let c : eqb (num_at 2 s 4) (tag_of ok) ≡ true = search (and_left, and_right) in
    let d : eqb (num_at 2 s 6) 2 ≡ true = search (and_left, and_right) in
    record { long = leb-true _ _ a; whole = eqb-true _ _ b; status = eqb-true _ _ c; two = eqb-true _ _ d }

-- by the numbers that were read
is-headed : {s : List ℕ} → Headed s → headed s ≡ true
unfolding headed
is-headed h = both (both (both (le-leb _ _ h.long) (eq-eqb _ _ h.whole)) (eq-eqb _ _ h.status)) (eq-eqb _ _ h.two)

-- ---- what a layout of a response reads starts so

-- a layout starts with a status
abbrev starts : Layout → Bool
starts end = false
starts (field f l) = eqb (tag_of f) (tag_of ok) && (eqb (rule_of f).least 2 && eqb (rule_of f).most 2)
starts (group g inner l) = false

abbrev none : Layout → Bool
none end = true
none (field f l) = false
none (group g inner l) = false

-- it is a TLV that holds a run which starts with a status
abbrev pub answers : Layout → Bool
answers end = false
answers (field f l) = false
answers (group g inner l) = starts inner && none l

record Started (v : List ℕ) : Type 0 where
  long : 6 ≤ length v
  status : num_at 2 v 0 ≡ tag_of ok
  two : num_at 2 v 2 ≡ 2

started : {l : Layout} {v : List ℕ} → Layered l v → starts l ≡ true → Started v
unfolding num_at
started nothing h = clash h refl
started (one {f = f} {t = t} p e i r) h =
    let k = and_right (eqb (tag_of f) (tag_of ok)) _ h in
    let x : (rule_of f).least ≡ 2 = eqb-true _ _ (and_left (eqb (rule_of f).least 2) _ k) in
    let y : (rule_of f).most ≡ 2 = eqb-true _ _ (and_right (eqb (rule_of f).least 2) _ k) in
    let n : length t.value ≡ 2 = omega (arith, fits-least f t.value i, fits-most f t.value i) in
    record {
      long = omega (arith, length_front p);
      status = rw p.spelled (p.tag_is ∙ e ∙ eqb-true _ _ (and_left (eqb (tag_of f) (tag_of ok)) _ h));
      two = rw p.spelled (p.length-is ∙ n);
    }
started (many p e q r) h = clash h refl

none_left : {l : Layout} {v : List ℕ} → Layered l v → none l ≡ true → v ≡ []
none_left nothing h = refl
none_left (one p e i r) h = clash h refl
none_left (many p e q r) h = clash h refl

answered : {l : Layout} {s : List ℕ} → Layered l s → answers l ≡ true → Headed s
unfolding num_at
answered nothing h = clash h refl
answered (one p e i r) h = clash h refl
answered (many {inner = inner} {t = t} {s = s} p e q r) h =
    let v : List ℕ = t.value in
    let w = started q (and_left (starts inner) _ h) in
    let z : p.after ≡ [] = none_left r (and_right (starts inner) _ h) in
    let n : length s ≡ 4 + length v = omega (arith, length_front p, ap length z) in
    record {
      long = omega (arith, w.long);
      whole = ap (λ (l : List ℕ). num_at 2 l 2) p.spelled ∙ p.length-is ∙ omega arith;
      status = rw (p.spelled, z, append-nil v) w.status;
      two = rw (p.spelled, z, append-nil v) w.two;
    }

pub answered_headed : {l : Layout} {s : List ℕ} → Layered l s → answers l ≡ true → headed s ≡ true
answered_headed i h = is-headed (answered i h)

-- ---- the status

-- the bytes of the status
abbrev pub status_in : List ℕ → List ℕ
status_in s = take 2 (drop 8 s)

-- they fit the field that a layout's group starts with
abbrev fits_in : List ℕ → Layout → Bool
fits_in v end = true
fits_in v (field f l) = fits f v
fits_in v (group g inner l) = true

abbrev pub fits_first : List ℕ → Layout → Bool
fits_first v end = true
fits_first v (field f l) = true
fits_first v (group g inner l) = fits_in v inner

value-fits : {l : Layout} {v : List ℕ} (w : List ℕ) → Layered l v → num (take 2 (drop 2 (v ++ w))) ≡ 2
    → fits_in (take 2 (drop 4 (v ++ w))) l ≡ true
value-fits w nothing n = refl
value-fits {v = v} w (one {t = t} p e i r) n =
    let x : List ℕ = t.value in
    let m : length x ≡ 2 = sym p.length-is ∙ rw p.spelled at n in
    let k : take 2 (drop 4 (v ++ w)) ≡ x = rw (p.spelled, append_assoc x p.after w) (take_at x (p.after ++ w) 2 m) in
    rw k i
value-fits w (many p e q r) n = refl

pub layered_fits : {l : Layout} {s : List ℕ} → Headed s → Layered l s → fits_first (status_in s) l ≡ true
unfolding num_at
layered_fits h nothing = refl
layered_fits h (one p e i r) = refl
layered_fits h (many p e q r) = rw p.spelled (value-fits p.after q (rw p.spelled at h.two))

-- as a number
byte_is : (a b n : ℕ) → a < 256 → n < 256 → eq_bytes (le 2 n) (a ∷ b ∷ []) ≡ eqb (num (a ∷ b ∷ [])) n
unfolding eq_bytes le num
byte_is a b n h k =
    split (eqb (num (a ∷ b ∷ [])) n)
    (λ e. let d : a + 256 * (b + 256 * 0) ≡ n = eqb-true _ _ e in
    both (eq-eqb (n % 256) a (omega arith)) (both (eq-eqb (n / 256 % 256) b (omega arith)) refl) ∙ sym e)
    (λ e. let d : a + 256 * (b + 256 * 0) ≡ n → ⊥ = eqb-false _ _ e in
    split (eqb (n % 256) a)
    (λ x. let p : n % 256 ≡ a = eqb-true _ _ x in
    rw (x, e, ne_eqb (n / 256 % 256) b (λ q. d (omega arith))))
    (λ x. rw (x, e)))

among-is : (a b : ℕ) → a < 256 → (ns : List ℕ) → all (λ n. ltb n 256) ns ≡ true
    → among (a ∷ b ∷ []) (map (le 2) ns) ≡ any (eqb (num (a ∷ b ∷ []))) ns
among-is a b h [] e = refl
among-is a b h (n ∷ ns) e =
    rw (byte_is a b n h (ltb-true _ _ (and_left (ltb n 256) _ e)), among-is a b h ns (and_right (ltb n 256) _ e))

two_are : (l ns : List ℕ) → 2 ≤ length l → get_or l 0 0 < 256 → all (λ n. ltb n 256) ns ≡ true
    → fits (status_among ns) (take 2 l) ≡ any (eqb (num (take 2 l))) ns
unfolding fits
two_are [] ns h k e = absurd (omega arith)
two_are (a ∷ []) ns h k e = absurd (omega arith)
two_are (a ∷ b ∷ l) ns h k e = among-is a b k ns e

drop-first : (k : ℕ) (l : List ℕ) → get_or (drop k l) 0 0 ≡ get_or l k 0
drop-first zero l = refl
drop-first (suc k) [] = refl
drop-first (suc k) (x ∷ l) = drop-first k l

-- of a status among numbers below 256, where its first byte is one
pub status-is : (s ns : List ℕ) → 10 ≤ length s → get_or s 8 0 < 256 → all (λ n. ltb n 256) ns ≡ true
    → fits (status_among ns) (status_in s) ≡ any (eqb (num_at 2 s 8)) ns
unfolding num_at
status-is s ns h k e = two_are (drop 8 s) ns (simp length-drop (omega arith)) (rw (drop-first 8 s) k) e

-- ---- from place to place

module _ {s : List ℕ} (h : Headed s) where
  outer_head : head_at s 0 ≡ Found (num_at 2 s 0) 4 (length s)
  outer_head =
      let n : ℕ = length s - 4 in
      let e : 4 + n ≡ length s = omega (arith, h.long) in
      head_tlv s 0 (num_at 2 s 0) n refl (sym h.whole) (omega arith) ∙ rw e

  status_head : head_at s 4 ≡ Found (tag_of ok) 8 10
  status_head = head_tlv s 4 (tag_of ok) 2 (sym h.status) (sym h.two) h.long

  in_outer : (g : ℕ) → in_group g s 0 ≡ cond (eqb (num_at 2 s 0) g) 4 (nowhere s)
  unfolding in_group
  in_outer g = rw (outer_head, eq-eqb (length s) (length s) refl) (split (eqb (num_at 2 s 0) g) (λ e. rw e) (λ e. rw e))

  after-status : (ns : List ℕ) → after_field (status_among ns) s 4 ≡ cond (fits (status_among ns) (status_in s)) 10 (nowhere s)
  unfolding fits
  after-status ns = past_head_lem (tag_of ok) (obeys (rule_of (status_among ns))) s 4 status_head

  -- a status alone
  pub alone-reads : (g : ℕ) (ns : List ℕ) → length s ≡ 10
      → reads (group g (field (status_among ns) end) end) s ≡ (eqb (num_at 2 s 0) g && fits (status_among ns) (status_in s))
  unfolding reads_at
  alone-reads g ns n =
      let f : Field = status_among ns in
      let no : (l : Layout) → reads_at l s (nowhere s) ≡ false = λ l. rw (lt-leb (length s + 1) (length s) (omega arith)) in
      reads_front _ s ∙ read-last g (field f end) s 0 ∙ rw (in_outer g)
      (split (eqb (num_at 2 s 0) g)
      (λ e. rw e (read_field f end s 4 ∙ rw (after-status ns) (split (fits f (status_in s)) (λ d. rw d (read_end s 10 ∙ eq-eqb 10 (length s) (sym n))) (λ d. rw d (no end)))))
      (λ e. rw e (no (field f end))))

  -- status OK
  pub opened : {t : ℕ} → t ≡ num_at 2 s 0 → fits ok (status_in s) ≡ true → Opened t s
  opened {t} e f =
      record {
        inside = sym (in_outer t ∙ rw (eq-eqb (num_at 2 s 0) t (sym e)));
        past = sym (after-status (0 ∷ []) ∙ rw f);
      }
