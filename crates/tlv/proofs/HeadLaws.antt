-- Headers at a place, the run of TLVs from a place on, what a loop over such a run goes by, and how long a part is, and whether it is empty.
-- Assumes nothing.
use mathlib.Core.Path.{◌≡◌, refl, sym, ap, ◌∙◌}
use mathlib.Core.Bool.{Bool, true, false, cond, ◌&&◌, and-false}
use mathlib.Core.List.{List, [], ◌∷◌}
use mathlib.Core.Option.{Option, none, some, map}
use Prim.Native.Nat.{ℕ, zero, suc, ◌+◌, ◌-◌, ◌/◌, ◌%◌, ◌≤◌, ◌<◌}
use native.Mathlib.Omega.{arith}
use lib.ListN.{length, take, drop, length-drop, drop_of_length-le}
use lib.Seq.{drop-drop, length-take-le}
use lib.Dec.{leb, eqb, eqb-suc-zero}
use borrow.Author.Tests.{leb-true, leb-false, eqb-true, eqb-false, le-leb, lt-leb, eq-eqb, ne_eqb}
use Rattle.model.specs.Lists.{all, empty}
use Rattle.model.specs.Tlv.{num, Tlv, tlv, tlvs, tlvs_past, is_run, composite, well_formed, fills}
use Rattle.model.proofs.Basics.{split, impossible}
use Rattle.tlv.specs.Numbers.{num_at}
use Rattle.tlv.specs.Heads.{head_at, between, part}
use Rattle.tlv.specs.Spans.{Inside}
use Rattle.tlv.specs.declared.heads.Span.{Span}
use Rattle.tlv.specs.declared.heads.Head.TheVariants.{Tlv as Found, Bad, End}

-- ---- what the bytes at a place make of the header

pub head_end : (s : List ℕ) (at : ℕ) → length s ≤ at → head_at s at ≡ End
unfolding head_at
head_end s at h = simp (le-leb _ _ h)

pub head_bad : (s : List ℕ) (at : ℕ) → at < length s → length s < at + 4 + num_at 2 s (at + 2) → head_at s at ≡ Bad
unfolding head_at
head_bad s at h k = simp (lt-leb _ _ h, lt-leb _ _ k)

pub head_tlv : (s : List ℕ) (at tag len : ℕ) → tag ≡ num_at 2 s at → len ≡ num_at 2 s (at + 2) → at + 4 + len ≤ length s
    → head_at s at ≡ Found tag (at + 4) (at + 4 + len)
unfolding head_at
head_tlv s at tag len et el h =
    let k : at < length s = omega arith in
    rw (et, el) (simp (lt-leb _ _ k, le-leb _ _ (rw el at h)))

-- ---- the other way: what the header says of the bytes

-- a TLV stands at a place of a stretch: its tag, and where its value starts and ends
pub record IsTlv (s : List ℕ) (at tag start end : ℕ) : Type 0 where
  pub start_is : start ≡ at + 4
  pub ordered : start ≤ end
  pub within : end ≤ length s
  pub tag_is : tag ≡ num_at 2 s at
  pub end_is : end ≡ at + 4 + num_at 2 s (at + 2)

module _ (s : List ℕ) (at : ℕ) where
  -- one of the three stands there
  cases : {G : Type 0} → (length s ≤ at → head_at s at ≡ End → G)
      → (at < length s → length s < at + 4 + num_at 2 s (at + 2) → head_at s at ≡ Bad → G)
      → (at + 4 + num_at 2 s (at + 2) ≤ length s → head_at s at ≡ Found (num_at 2 s at) (at + 4) (at + 4 + num_at 2 s (at + 2)) → G) → G
  cases f g h =
      split (leb (length s) at)
      (λ e. let k = leb-true _ _ e in f k (head_end s at k))
      (λ e. let k = leb-false _ _ e in split (leb (at + 4 + num_at 2 s (at + 2)) (length s))
      (λ d. let l = leb-true _ _ d in h l (head_tlv s at _ _ refl refl l))
      (λ d. let l = leb-false _ _ d in g k l (head_bad s at k l)))

  pub tlv-is : (tag start end : ℕ) → head_at s at ≡ Found tag start end → IsTlv s at tag start end
  tlv-is tag start end e =
      cases
      (λ h d. impossible cc)
      (λ h k d. impossible cc)
      (λ h d. let x : start ≡ at + 4 = cc in let y : end ≡ at + 4 + num_at 2 s (at + 2) = cc in
      record { start_is = x; ordered = omega arith; within = omega arith; tag_is = cc; end_is = y })

  pub bad_is : head_at s at ≡ Bad → (at < length s) × (length s < at + 4 + num_at 2 s (at + 2))
  bad_is e =
      cases
      (λ h d. impossible cc)
      (λ h k d. (h, k))
      (λ h d. impossible cc)

  pub end_is : head_at s at ≡ End → length s ≤ at
  end_is e =
      cases (λ h d. h)
      (λ h k d. impossible cc)
      (λ h d. impossible cc)

  -- where bytes are left, and no TLV stands there, is one that is none
  pub no-tlv : at < length s → ((tag start end : ℕ) → head_at s at ≡ Found tag start end → ⊥) → head_at s at ≡ Bad
  no-tlv k f =
      cases
      (λ h d. absurd (omega arith))
      (λ h l d. d)
      (λ h d. absurd (f _ _ _ d))

-- ---- the run of TLVs from a place on

past_skip : (k : ℕ) (l : List ℕ) → k ≤ length l → tlvs_past k l ≡ tlvs (drop k l)
unfolding tlvs_past
past_skip zero l h = refl
past_skip (suc k) [] h = absurd (omega arith)
past_skip (suc k) (x ∷ l) h = past_skip k l (omega arith)

past-short : (k : ℕ) (l : List ℕ) → length l < k → tlvs_past k l ≡ none
unfolding tlvs_past
past-short zero l h = absurd (omega arith)
past-short (suc k) [] h = refl
past-short (suc k) (x ∷ l) h = past-short k l (omega arith)

run-few : (l : List ℕ) → 0 < length l → length l < 4 → tlvs l ≡ none
unfolding tlvs_past
run-few [] h k = absurd (omega arith)
run-few (a ∷ []) h k = refl
run-few (a ∷ b ∷ []) h k = refl
run-few (a ∷ b ∷ c ∷ []) h k = refl
run-few (a ∷ b ∷ c ∷ d ∷ l) h k = absurd (omega arith)

-- the run's first TLV is taken off, with its length n
run-first : (l : List ℕ) (n : ℕ) → n ≡ num (take 2 (drop 2 l)) → 4 ≤ length l
    → tlvs l ≡ map (λ ts. tlv (num (take 2 l)) (take n (drop 4 l)) ∷ ts) (tlvs_past n (drop 4 l))
unfolding tlvs_past
run-first [] n e h = absurd (omega arith)
run-first (a ∷ []) n e h = absurd (omega arith)
run-first (a ∷ b ∷ []) n e h = absurd (omega arith)
run-first (a ∷ b ∷ c ∷ []) n e h = absurd (omega arith)
run-first (a ∷ b ∷ c ∷ d ∷ l) n e h = rw e

run-place : (s : List ℕ) (at : ℕ) → at + 4 ≤ length s → let n = num_at 2 s (at + 2) in
    tlvs (drop at s) ≡ map (λ ts. tlv (num_at 2 s at) (take n (drop (at + 4) s)) ∷ ts) (tlvs_past n (drop (at + 4) s))
unfolding num_at
run-place s at h =
    run-first (drop at s) (num_at 2 s (at + 2)) (simp drop-drop) (simp length-drop (omega arith)) ∙ simp drop-drop

pub run_end : (s : List ℕ) (at : ℕ) → head_at s at ≡ End → tlvs (drop at s) ≡ some []
unfolding tlvs_past
run_end s at e = rw (drop_of_length-le s (end_is s at e))

pub run_bad : (s : List ℕ) (at : ℕ) → head_at s at ≡ Bad → tlvs (drop at s) ≡ none
run_bad s at e =
    let b = bad_is s at e in
    let n : ℕ = num_at 2 s (at + 2) in
    split (leb (at + 4) (length s))
    (λ h. let k : at + 4 ≤ length s = leb-true _ _ h in
    run-place s at k ∙ rw (past-short n (drop (at + 4) s) (simp length-drop (omega arith))))
    (λ h. let k : length s < at + 4 = leb-false _ _ h in
    run-few (drop at s) (simp length-drop (omega arith)) (simp length-drop (omega arith)))

pub run-tlv : {s : List ℕ} {at tag start end : ℕ} → IsTlv s at tag start end
    → tlvs (drop at s) ≡ map (λ ts. tlv tag (between s start end) ∷ ts) (tlvs (drop end s))
run-tlv {s} {at} {tag} {start} {end} i =
    let n : ℕ = num_at 2 s (at + 2) in
    let e : at + 4 + n - (at + 4) ≡ n = omega arith in
    let h : at + 4 + n ≤ length s = omega (arith, i) in
    rw (i.tag_is, i.start_is, i.end_is, e)
    (run-place s at (omega arith) ∙ rw (past_skip n (drop (at + 4) s) (simp length-drop (omega arith)), drop-drop))

-- ---- a test of each TLV of a run

module _ (p : Tlv → Bool) where
  all_first : (c : Tlv) (o : Option (List Tlv)) → is_run (all p) (map (λ ts. c ∷ ts) o) ≡ (p c && is_run (all p) o)
  all_first c none = sym (and-false (p c))
  all_first c (some ts) = refl

  pub all_end : (s : List ℕ) (at : ℕ) → head_at s at ≡ End → is_run (all p) (tlvs (drop at s)) ≡ true
  all_end s at e = rw (run_end s at e)

  pub all_bad : (s : List ℕ) (at : ℕ) → head_at s at ≡ Bad → is_run (all p) (tlvs (drop at s)) ≡ false
  all_bad s at e = rw (run_bad s at e)

  -- at a TLV, where b is what its test gave
  pub all-tlv : {s : List ℕ} {at tag start end : ℕ} {b : Bool} → IsTlv s at tag start end → b ≡ p (tlv tag (between s start end))
      → is_run (all p) (tlvs (drop at s)) ≡ (b && is_run (all p) (tlvs (drop end s)))
  all-tlv {s} {end = end} i e = rw (run-tlv i, e) (all_first _ (tlvs (drop end s)))

-- ---- a part of a stretch

pub length_part : {s : List ℕ} {p : Span} → Inside s p → length (part s p) ≡ p.end - p.start
length_part {s} {p} i = length-take-le (p.end - p.start) (drop p.start s) (simp length-drop (omega (arith, i)))

-- a list is empty exactly if two numbers are equal that differ by its length
pub empty-size : {A : Type 0} (v : List A) (i j : ℕ) → length v ≡ (i - j) + (j - i) → empty v ≡ eqb i j
empty-size [] i j e = sym (eq-eqb i j (omega arith))
empty-size (x ∷ v) i j e = sym (ne_eqb i j (λ k. omega arith))

pub part-empty : {s : List ℕ} {p : Span} → Inside s p → empty (part s p) ≡ eqb p.start p.end
part-empty {s} {p} i = empty-size (part s p) p.start p.end (omega (arith, length_part i, i))

-- ---- a stretch that its first TLV fills

pub fills-short : (s : List ℕ) → length s < 4 → fills s ≡ false
fills-short s h = ne_eqb (4 + num (take 2 (drop 2 s))) (length s) (λ e. omega arith)

pub fills-is : (s : List ℕ) (len : ℕ) → 4 ≤ length s → len ≡ num_at 2 s 2 → eqb (length s - 4) len ≡ fills s
unfolding num_at
fills-is s len h e =
    let n : ℕ = num (take 2 (drop 2 s)) in
    split (eqb (length s - 4) len)
    (λ d. let k = eqb-true (length s - 4) len d in d ∙ sym (eq-eqb (4 + n) (length s) (omega arith)))
    (λ d. let k = eqb-false (length s - 4) len d in d ∙ sym (ne_eqb (4 + n) (length s) (λ f. k (omega arith))))

-- ---- well-formed stretches

-- what a level asks of each TLV
abbrev pub inner : ℕ → Tlv → Bool
inner levels t = cond (composite t.tag) (well_formed (levels - 1) t.value) true

pub well_none : (s : List ℕ) → well_formed 0 s ≡ eqb (length s) 0
unfolding well_formed
well_none [] = refl
well_none (x ∷ s) = sym (eqb-suc-zero (length s))

pub well_run : (levels : ℕ) (s : List ℕ) → (levels ≡ 0 → ⊥) → well_formed levels s ≡ is_run (all (inner levels)) (tlvs s)
unfolding well_formed
well_run zero s h = absurd (h refl)
well_run (suc n) s h =
    let e : n ≡ suc n - 1 = omega arith in
    ap (λ (k : ℕ). is_run (all (λ t. cond (composite t.tag) (well_formed k t.value) true)) (tlvs s)) e

-- a turn of the walk at a TLV
module _ {s : List ℕ} {at tag start end : ℕ} (levels : ℕ) (i : IsTlv s at tag start end)
    (so_far : well_formed levels s ≡ is_run (all (inner levels)) (tlvs (drop at s))) where
  -- a composite one, where b is what the walk of its value gave
  pub step_in : {b : Bool} → tag / 4096 % 2 ≡ 1 → b ≡ well_formed (levels - 1) (between s start end)
      → well_formed levels s ≡ (b && is_run (all (inner levels)) (tlvs (drop end s)))
  step_in h e =
      let k : inner levels (tlv tag (between s start end)) ≡ well_formed (levels - 1) (between s start end) = simp (eq-eqb _ _ h) in
      so_far ∙ all-tlv (inner levels) i (e ∙ sym k)

  pub step-over : (tag / 4096 % 2 ≡ 1 → ⊥) → well_formed levels s ≡ is_run (all (inner levels)) (tlvs (drop end s))
  step-over h =
      let k : true ≡ inner levels (tlv tag (between s start end)) = simp (ne_eqb _ _ h) in
      so_far ∙ all-tlv (inner levels) i k
