-- The walk of a stretch: how it goes on from each place, and that over what a layout reads it meets the parts.
-- Assumes nothing.
use mathlib.Core.Path.{◌≡◌, refl, sym, ap, ◌∙◌}
use mathlib.Core.Bool.{true, cond}
use mathlib.Core.List.{List, [], ◌∷◌, ◌++◌, append_assoc, append-nil}
use Prim.Native.Nat.{ℕ, zero, suc, ◌+◌, ◌-◌, ◌≤◌, ◌<◌}
use native.Mathlib.Omega.{arith}
use lib.ListN.{length, take, drop, length-append, length-drop}
use lib.Seq.{drop-drop, drop-append_seam}
use lib.Dec.{leb}
use borrow.Author.Tests.{le-leb}
use Rattle.model.specs.Tlv.{num, Tlv}
use Rattle.model.specs.Layouts.{Layout, reads}
use Rattle.model.specs.Reader.{holds, parts_at, parts}
use Rattle.model.proofs.Basics.{split, clash}
use Rattle.model.proofs.PartLaws.{honest}
use Rattle.tlv.specs.Numbers.{num_at}
use Rattle.tlv.specs.Heads.{head_at}
use Rattle.tlv.specs.declared.heads.Head.TheVariants.{End}
use Rattle.tlv.proofs.HeadLaws.{IsTlv, end_is}
use Rattle.response_reader.specs.Met.{part_at, met_past, met}
use Rattle.layouts.proofs.SizeLaws.{Front, Layered, nothing, one, many, layered, length_front, parts_front, parts_nothing, honest_field, honest_group}

-- ---- from a place on

past_skip : (k at to : ℕ) (l : List ℕ) → k ≤ length l → to ≡ at + k → met_past k at l ≡ met_past 0 to (drop k l)
unfolding met_past
past_skip zero at to l h e = ap (λ (i : ℕ). met_past 0 i l) (omega arith)
past_skip (suc k) at to [] h e = absurd (omega arith)
past_skip (suc k) at to (x ∷ l) h e = past_skip k (at + 1) to l (omega arith) (omega arith)

met-few : (at : ℕ) (l : List ℕ) → length l < 4 → met_past 0 at l ≡ []
unfolding met_past
met-few at [] h = refl
met-few at (a ∷ []) h = refl
met-few at (a ∷ b ∷ []) h = refl
met-few at (a ∷ b ∷ c ∷ []) h = refl
met-few at (a ∷ b ∷ c ∷ d ∷ l) h = absurd (omega arith)

-- the first TLV is met, with its tag t and its length n, if its value ends within the stretch
met-first : (at : ℕ) (l : List ℕ) (t n : ℕ) → t ≡ num (take 2 l) → n ≡ num (take 2 (drop 2 l)) → 4 ≤ length l
    → met_past 0 at l ≡ cond (leb n (length (drop 4 l))) (part_at t (at + 4) n ∷ met_past (cond (holds t) 0 n) (at + 4) (drop 4 l)) []
unfolding met_past
met-first at [] t n e f h = absurd (omega arith)
met-first at (a ∷ []) t n e f h = absurd (omega arith)
met-first at (a ∷ b ∷ []) t n e f h = absurd (omega arith)
met-first at (a ∷ b ∷ c ∷ []) t n e f h = absurd (omega arith)
met-first at (a ∷ b ∷ c ∷ d ∷ l) t n e f h = rw (e, f)

met-place : (s : List ℕ) (at : ℕ) → at + 4 ≤ length s → let t = num_at 2 s at in let n = num_at 2 s (at + 2) in
    met s at
    ≡ cond (leb n (length (drop (at + 4) s))) (part_at t (at + 4) n ∷ met_past (cond (holds t) 0 n) (at + 4) (drop (at + 4) s)) []
unfolding num_at met
met-place s at h =
    met-first at (drop at s) (num_at 2 s at) (num_at 2 s (at + 2)) refl (simp drop-drop) (simp length-drop (omega arith)) ∙ simp drop-drop

pub met-end : (s : List ℕ) (at : ℕ) → head_at s at ≡ End → met s at ≡ []
unfolding met
met-end s at e = met-few at (drop at s) (simp length-drop (omega (arith, end_is s at e)))

pub met-tlv : {s : List ℕ} {at tag start end : ℕ} → IsTlv s at tag start end
    → met s at ≡ part_at tag start (end - start) ∷ met s (cond (holds tag) start end)
unfolding met
met-tlv {s} {at} i =
    let n : ℕ = num_at 2 s (at + 2) in
    let e : at + 4 + n - (at + 4) ≡ n = omega arith in
    let h : at + 4 + n ≤ length s = omega (arith, i) in
    let k : n ≤ length (drop (at + 4) s) = simp length-drop (omega arith) in
    rw (i.tag_is, i.start_is, i.end_is, e)
    (met-place s at (omega arith) ∙ rw (le-leb _ _ k)
    (split (holds (num_at 2 s at)) (λ d. rw d)
    (λ d. rw d (rw (past_skip n (at + 4) (at + 4 + n) (drop (at + 4) s) k refl, drop-drop)))))

-- ---- over what a layout reads

-- the first TLV of a run
met_front : (at : ℕ) {t : Tlv} {ts : List Tlv} {s : List ℕ} (p : Front t ts s) (rest : List ℕ)
    → met_past 0 at (s ++ rest)
    ≡ part_at t.tag (at + 4) (length t.value)
    ∷ met_past (cond (holds t.tag) 0 (length t.value)) (at + 4) (t.value ++ (p.after ++ rest))
unfolding met_past
met_front at {t} {s = s} p rest =
    let v : List ℕ = t.value in
    let h : length v ≤ length (v ++ (p.after ++ rest)) = simp length-append (omega arith) in
    let e : s ++ rest ≡ p.a ∷ p.b ∷ p.c ∷ p.d ∷ (v ++ (p.after ++ rest)) = rw (p.spelled, append_assoc v p.after rest) in
    rw (e, p.tag_is, p.length-is, le-leb _ _ h)

-- past the value of a TLV
past_value : (at : ℕ) (v w : List ℕ) → met_past (length v) at (v ++ w) ≡ met_past 0 (at + length v) w
past_value at v w =
    past_skip (length v) at (at + length v) (v ++ w) (simp length-append (omega arith)) refl ∙ rw (drop-append_seam v w)

-- a run that something follows: its parts are met, then what follows
pub walked : (n at : ℕ) {l : Layout} {s : List ℕ} → Layered l s → honest n l ≡ true → (rest : List ℕ)
    → met_past 0 at (s ++ rest) ≡ parts_at n at s ++ met_past 0 (at + length s) rest
walked n at nothing h rest = rw (parts_nothing n at) (ap (λ (i : ℕ). met_past 0 i rest) (omega arith))
walked zero at (one p g i r) h rest = clash h refl
walked zero at (many p g i r) h rest = clash h refl
walked (suc n) at (one {f = f} {l = l} {t = t} {s = s} p g i r) h rest =
    let k = honest_field n f l h in
    let next : ℕ = at + 4 + length t.value in
    let y : at + length s ≡ next + length p.after = omega (arith, length_front p) in
    rw (met_front at p rest, parts_front n at p, g, k.0, y, past_value (at + 4) t.value (p.after ++ rest))
    (cc (walked (suc n) next r k.1 rest))
walked (suc n) at (many {g = g} {inner = inner} {l = l} {t = t} {s = s} p j i r) h rest =
    let k = honest_group n g inner l h in
    let next : ℕ = at + 4 + length t.value in
    let y : at + length s ≡ next + length p.after = omega (arith, length_front p) in
    rw (met_front at p rest, parts_front n at p, j, k.0, y)
    (cc (
      walked n (at + 4) i k.1 (p.after ++ rest),
      walked (suc n) next r k.2 rest,
      append_assoc (parts_at n (at + 4) t.value) (parts_at (suc n) next p.after) (met_past 0 (next + length p.after) rest),
    ))

pub parts-met : (l : Layout) (s : List ℕ) → honest 5 l ≡ true → reads l s ≡ true → parts s ≡ met s 0
unfolding parts met met_past
parts-met l s h e =
    let w : met_past 0 0 (s ++ []) ≡ parts_at 5 0 s ++ [] = walked 5 0 (layered l s e) h [] in
    sym (simp append-nil at w)
