-- Well-formed UTF-8: it is what section 3's table gives for scalar values one after another, and for one list of them only; a stretch that is cut
-- inside a character is not; and stretches one after the other.
-- Assumes nothing.
use mathlib.Core.Path.{◌≡◌, refl, sym, ap, ◌∙◌}
use mathlib.Core.Bool.{Bool, true, false, not, ◌&&◌, ◌||◌}
use mathlib.Core.List.{List, [], ◌∷◌, ◌++◌, append_assoc, append-nil}
use mathlib.Core.Option.{Option, none, some}
use Prim.Native.Nat.{ℕ, zero, suc, ◌+◌, ◌-◌, ◌*◌, ◌≤◌, ◌<◌}
use native.Mathlib.Omega.{arith}
use lib.ListN.{length, take, get_or}
use lib.Dec.{leb, ltb}
use borrow.Author.Tests.{leb-true, ltb-true}
use lib.Seq.{take-append_seam, get_or-append_seam}
use Rattle.model.specs.Lists.{all}
use Rattle.model.specs.Utf8.{Range, within, tail, follow, utf8_after, utf8, scalar, octets, spelt}
use Rattle.model.specs.Tlv.{fits, username}
use Rattle.model.proofs.Basics.{split, impossible, clash, and_left, and_right, both, either}
use Rattle.model.proofs.LayoutLaws.{fits-allowed}
use Rattle.model.proofs.Utf8Chars.{in_range, range_low, range_high, If, by_test, Fit, bits, char, Completes, completes}

-- ---- scalar values are well formed

after_fit : (rs : List Range) (bs s : List ℕ) → Fit rs bs → utf8_after (some rs) (bs ++ s) ≡ utf8 s
unfolding utf8_after
after_fit [] [] s f = refl
after_fit [] (b ∷ bs) s f = absurd f
after_fit (r ∷ rs) [] s f = absurd f
after_fit (r ∷ rs) (b ∷ bs) s f = rw (in_range r b f.0 f.1) (after_fit rs bs s f.2)

begun : (a : ℕ) (s : List ℕ) → utf8 (a ∷ s) ≡ utf8_after (follow a) s
unfolding utf8_after
begun a s = refl

after-char : (v : ℕ) (s : List ℕ) → scalar v ≡ true → utf8 (octets v ++ s) ≡ utf8 s
unfolding utf8_after
after-char v s e =
    let c = char v e in
    rw c.is (begun c.lead (c.rest ++ s) ∙ rw c.line (after_fit c.ranges c.rest s c.fits))

after-spelt : (vs s : List ℕ) → all scalar vs ≡ true → utf8 (spelt vs ++ s) ≡ utf8 s
unfolding spelt
after-spelt [] s e = refl
after-spelt (v ∷ vs) s e =
    rw (append_assoc (octets v) (spelt vs) s)
    (after-char v (spelt vs ++ s) (and_left (scalar v) _ e) ∙ after-spelt vs s (and_right (scalar v) _ e))

pub spelt-utf8 : (vs : List ℕ) → all scalar vs ≡ true → utf8 (spelt vs) ≡ true
unfolding utf8_after
spelt-utf8 vs e = ap utf8 (sym (append-nil (spelt vs))) ∙ after-spelt vs [] e

-- ---- what is well formed is scalar values

pub record Spelt (s : List ℕ) : Type 0 where
  pub values : List ℕ
  pub scalars : all scalar values ≡ true
  pub bytes : spelt values ≡ s

spelt_none : Spelt []
unfolding spelt
spelt_none = record { values = []; scalars = refl; bytes = refl }

spelt-more : (v : ℕ) (p s : List ℕ) → scalar v ≡ true → octets v ≡ p → Spelt s → Spelt (p ++ s)
unfolding spelt
spelt-more v p s e f k =
    record { values = v ∷ k.values; scalars = both e k.scalars; bytes = rw (f, k.bytes) }

-- where p has been read of a character that these ranges complete
spelt-after : (s : List ℕ) (v : ℕ) (o : Option (List Range)) (p : List ℕ) → If (λ rs. Completes v rs p) o → utf8_after o s ≡ true → Spelt (p ++ s)
unfolding utf8_after
spelt-after [] v none p k e = clash e refl
spelt-after (b ∷ s) v none p k e = clash e refl
spelt-after [] v (some []) p k e = let g = k [] tt in spelt-more v p [] g.0 (g.1 ∙ append-nil p) spelt_none
spelt-after (a ∷ s) v (some []) p k e =
    let g = k [] tt in
    spelt-more v p (a ∷ s) g.0 (g.1 ∙ append-nil p) (spelt-after s (bits a) (follow a) (a ∷ []) (completes a) e)
spelt-after [] v (some (r ∷ rs)) p k e = clash e refl
spelt-after (b ∷ s) v (some (r ∷ rs)) p k e =
    let w : within r b ≡ true = and_left (within r b) _ e in
    rw (← append_assoc p (b ∷ []) s)
    (spelt-after s (64 * v + (b - 0x80)) (some rs) (p ++ (b ∷ []))
    (λ bs f. rw (append_assoc p (b ∷ []) bs) (k (b ∷ bs) (range_low r b w, range_high r b w, f)))
    (and_right (within r b) _ e))

pub utf8-spelt : (s : List ℕ) → utf8 s ≡ true → Spelt s
unfolding utf8_after
utf8-spelt [] e = spelt_none
utf8-spelt (a ∷ s) e = spelt-after s (bits a) (follow a) (a ∷ []) (completes a) e

-- ---- of one list of values only

fit_apart : (rs : List Range) (xs ys s t : List ℕ) → Fit rs xs → Fit rs ys → xs ++ s ≡ ys ++ t → (xs ≡ ys) × (s ≡ t)
fit_apart [] [] [] s t f g e = (refl, e)
fit_apart [] (x ∷ xs) ys s t f g e = absurd f
fit_apart [] [] (y ∷ ys) s t f g e = absurd g
fit_apart (r ∷ rs) [] ys s t f g e = absurd f
fit_apart (r ∷ rs) (x ∷ xs) [] s t f g e = absurd g
fit_apart (r ∷ rs) (x ∷ xs) (y ∷ ys) s t f g e =
    let h : x ≡ y = cc in
    let k = fit_apart rs xs ys s t f.2 g.2 cc in
    let m : xs ≡ ys = k.0 in
    (cc, k.1)

char_apart : (v w : ℕ) (s t : List ℕ) → scalar v ≡ true → scalar w ≡ true → octets v ++ s ≡ octets w ++ t → (v ≡ w) × (s ≡ t)
char_apart v w s t e f g =
    let c = char v e in
    let d = char w f in
    let h : c.lead ∷ (c.rest ++ s) ≡ d.lead ∷ (d.rest ++ t) = rw (c.is, d.is) at g in
    let l : c.lead ≡ d.lead = cc in
    let q : some c.ranges ≡ some d.ranges = sym c.line ∙ ap follow l ∙ d.line in
    let r : c.ranges ≡ d.ranges = cc in
    let k = fit_apart d.ranges c.rest d.rest s t (rw r at c.fits) d.fits cc in
    let m : c.rest ≡ d.rest = k.0 in
    (sym c.value ∙ rw (l, m) d.value, k.1)

pub spelt_once : (vs ws : List ℕ) → all scalar vs ≡ true → all scalar ws ≡ true → spelt vs ≡ spelt ws → vs ≡ ws
unfolding spelt
spelt_once [] [] e f g = refl
spelt_once [] (w ∷ ws) e f g =
    let d = char w (and_left (scalar w) _ f) in
    let h : [] ≡ d.lead ∷ (d.rest ++ spelt ws) = rw d.is at g in
    impossible cc
spelt_once (v ∷ vs) [] e f g =
    let c = char v (and_left (scalar v) _ e) in
    let h : c.lead ∷ (c.rest ++ spelt vs) ≡ [] = rw c.is at g in
    impossible cc
spelt_once (v ∷ vs) (w ∷ ws) e f g =
    let k = char_apart v w (spelt vs) (spelt ws) (and_left (scalar v) _ e) (and_left (scalar w) _ f) g in
    let h : v ≡ w = k.0 in
    let i : vs ≡ ws = spelt_once vs ws (and_right (scalar v) _ e) (and_right (scalar w) _ f) k.1 in
    cc

-- ---- cut

-- no byte that follows a first byte is anything but a tail, and no first byte is one
abbrev in_tail : Range → Bool
in_tail r = leb 0x80 r.low && leb r.high 0xBF

abbrev Leads : ℕ → List Range → Type 0
Leads a rs = (all in_tail rs ≡ true) × (within tail a ≡ false)

leads : (a : ℕ) → If (Leads a) (follow a)
leads =
    by_test (λ r rs. all in_tail rs && (ltb r.high 0x80 || ltb 0xBF r.low)) Leads refl
    (λ r rs e a l h. (
      and_left (all in_tail rs) _ e,
      either (ltb r.high 0x80) _ (and_right (all in_tail rs) _ e)
          (λ f. apart a (λ t. omega (arith, t.0, ltb-true r.high 0x80 f)))
          (λ f. apart a (λ t. omega (arith, t.1, ltb-true 0xBF r.low f))),
    ))
  where
    apart : (a : ℕ) → ((0x80 ≤ a) × (a ≤ 0xBF) → ⊥) → within tail a ≡ false
    apart a f = split (within tail a) (λ e. absurd (f (range_low tail a e, range_high tail a e))) (λ e. e)

in_tail_lem : (r : Range) (b : ℕ) → in_tail r ≡ true → r.low ≤ b → b ≤ r.high → within tail b ≡ true
in_tail_lem r b e l h =
    in_range tail b (omega (arith, leb-true 0x80 r.low (and_left (leb 0x80 r.low) _ e)))
    (omega (arith, leb-true r.high 0xBF (and_right (leb 0x80 r.low) _ e)))

leads_tails : (a : ℕ) (o : Option (List Range)) → If (Leads a) o → If (λ rs. all in_tail rs ≡ true) o
leads_tails a none k = tt
leads_tails a (some rs) k = k.0

leads_first : (a : ℕ) (o : Option (List Range)) (s : List ℕ) → If (Leads a) o → utf8_after o s ≡ true → within tail a ≡ false
unfolding utf8_after
leads_first a none [] k e = clash e refl
leads_first a none (b ∷ s) k e = clash e refl
leads_first a (some rs) s k e = k.1

cut-after : (s : List ℕ) (o : Option (List Range)) (n : ℕ) → If (λ rs. all in_tail rs ≡ true) o → utf8_after o s ≡ true
    → utf8_after o (take n s) ≡ not (within tail (get_or s n 0))
unfolding utf8_after
cut-after [] o zero k e = e
cut-after [] o (suc n) k e = e
cut-after (b ∷ s) none n k e = clash e refl
cut-after (a ∷ s) (some []) zero k e = rw (leads_first a (follow a) s (leads a) e)
cut-after (a ∷ s) (some []) (suc n) k e = cut-after s (follow a) n (leads_tails a (follow a) (leads a)) e
cut-after (b ∷ s) (some (r ∷ rs)) zero k e =
    let w : within r b ≡ true = and_left (within r b) _ e in
    rw (in_tail_lem r b (and_left (in_tail r) _ k) (range_low r b w) (range_high r b w))
cut-after (b ∷ s) (some (r ∷ rs)) (suc n) k e =
    rw (and_left (within r b) _ e) (cut-after s (some rs) n (and_right (in_tail r) _ k) (and_right (within r b) _ e))

-- cut at a place it is well formed exactly where no tail stands there, that is, where a character ends; past its end nothing is cut
pub cut : (s : List ℕ) (n : ℕ) → utf8 s ≡ true → utf8 (take n s) ≡ not (within tail (get_or s n 0))
cut s n e = cut-after s (some []) n refl e

-- ---- one after the other

pub joined : (s t : List ℕ) → utf8 s ≡ true → utf8 (s ++ t) ≡ utf8 t
joined s t e = let k = utf8-spelt s e in rw (← k.bytes) (after-spelt k.values t k.scalars)

pub utf8_append : (s t : List ℕ) → utf8 s ≡ true → utf8 t ≡ true → utf8 (s ++ t) ≡ true
utf8_append s t e f = joined s t e ∙ f

pub utf8_front : (s t : List ℕ) → utf8 (s ++ t) ≡ true → utf8 t ≡ true → utf8 s ≡ true
unfolding utf8_after
utf8_front s [] e f = rw (append-nil s) at e
utf8_front s (b ∷ t) e f =
    sym (ap utf8 (take-append_seam s (b ∷ t))) ∙ cut (s ++ b ∷ t) (length s) e ∙ rw (get_or-append_seam s b t 0, leads_first b (follow b) t (leads b) f)

-- ---- the cut of which the buyer complains

fit_tail : (rs : List Range) (bs : List ℕ) (k : ℕ) → all in_tail rs ≡ true → Fit rs bs → k < length bs → within tail (get_or bs k 0) ≡ true
fit_tail [] [] k t f h = absurd (omega arith)
fit_tail [] (b ∷ bs) k t f h = absurd f
fit_tail (r ∷ rs) [] k t f h = absurd f
fit_tail (r ∷ rs) (b ∷ bs) zero t f h = in_tail_lem r b (and_left (in_tail r) _ t) f.0 f.1
fit_tail (r ∷ rs) (b ∷ bs) (suc k) t f h = fit_tail rs bs k (and_right (in_tail r) _ t) f.2 (omega arith)

char_tail : (v k : ℕ) → scalar v ≡ true → 0 < k → k < length (octets v) → within tail (get_or (octets v) k 0) ≡ true
char_tail v zero e p h = absurd (omega arith)
char_tail v (suc k) e p h =
    let c = char v e in
    let t : all in_tail c.ranges ≡ true = rw c.line at (leads_tails c.lead (follow c.lead) (leads c.lead)) in
    let n : suc k < suc (length c.rest) = rw c.is at h in
    rw c.is (fit_tail c.ranges c.rest k t c.fits (omega arith))

char_utf8 : (v : ℕ) → scalar v ≡ true → utf8 (octets v) ≡ true
unfolding utf8_after
char_utf8 v e = ap utf8 (sym (append-nil (octets v))) ∙ after-char v [] e

-- well formed, then a part of one more character
pub cut_inside : (s : List ℕ) (v k : ℕ) → utf8 s ≡ true → scalar v ≡ true → 0 < k → k < length (octets v)
    → utf8 (s ++ take k (octets v)) ≡ false
cut_inside s v k e f p h = joined s (take k (octets v)) e ∙ cut (octets v) k (char_utf8 v f) ∙ rw (char_tail v k f p h)

-- a username that is cut before a tail is none
pub name-cut : (v : List ℕ) (n : ℕ) → fits username v ≡ true → within tail (get_or v n 0) ≡ true → fits username (take n v) ≡ false
name-cut v n e t =
    not-fits (take n v) (cut v n (fits-allowed username v e) ∙ rw t)
  where
    not-fits : (w : List ℕ) → utf8 w ≡ false → fits username w ≡ false
    not-fits w u = split (fits username w) (λ g. clash (fits-allowed username w g) u) (λ g. g)
