-- That the signed structure of a stretch lies in it, and what the reader's calls give of a response.
-- Assumes nothing.
use mathlib.Core.Path.{◌≡◌, refl, ap, ◌∙◌}
use mathlib.Core.Bool.{true, cond, ◌&&◌}
use mathlib.Core.List.{List, [], ◌∷◌}
use Prim.Native.Nat.{ℕ, zero, suc, ◌+◌, ◌-◌, ◌≤◌}
use native.Mathlib.Omega.{arith}
use lib.ListN.{length, take, drop}
use lib.Seq.{take_all}
use lib.Dec.{leb}
use Rattle.std.specs.Prelude.{Ok}
use borrow.Author.Tests.{leb-true}
use Rattle.model.specs.Tlv.{num}
use Rattle.model.specs.Layouts.{size}
use Rattle.model.specs.Commands.{gave}
use Rattle.model.specs.Reader.{Part, holds, parts, field_parts, is_response, Stretch, signed_part, read_response, is_signed}
use Rattle.model.proofs.Basics.{split, and_left, and_right}
use Rattle.model.proofs.PartLaws.{honest}
use Rattle.model.proofs.Refusals.{reads-response}
use Rattle.tlv.specs.Numbers.{num_at, NumberAt}
use Rattle.tlv.specs.Heads.{part}
use Rattle.tlv.specs.Spans.{span, Inside}
use Rattle.tlv.specs.declared.heads.Span.{Span}
use Rattle.layouts.proofs.SizeLaws.{fields-number}
use Rattle.response_reader.specs.Met.{part_at, met_past, met, span_of, signed_met}
use Rattle.response_reader.specs.Readings.{Columns, columns, parts_of, left, reading_of, signed_bytes}
use Rattle.response_reader.proofs.MetLaws.{parts-met}
use Rattle.response_reader.proofs.ShapeLaws.{response_read}
use Rattle.response_reader.proofs.SignedLaws.{first_signed}

-- ---- the first signed structure lies in the stretch

none_inside : (s : List ℕ) → Inside s (span 0 0)
none_inside s = record { ordered = omega arith; within = omega arith }

more-inside : (s : List ℕ) (t at n : ℕ) (ps : List Part) → at + 4 + n ≤ length s → Inside s (span_of (first_signed ps))
    → Inside s (span_of (first_signed (part_at t (at + 4) n ∷ ps)))
more-inside s t at n ps h i =
    split (is_signed t) (λ e. rw e (record { ordered = omega arith; within = omega arith })) (λ e. rw e i)

past-inside : (s : List ℕ) (k at : ℕ) (l : List ℕ) → at + length l ≡ length s → Inside s (span_of (first_signed (met_past k at l)))
unfolding met_past
past-inside s zero at [] h = none_inside s
past-inside s zero at (a ∷ []) h = none_inside s
past-inside s zero at (a ∷ b ∷ []) h = none_inside s
past-inside s zero at (a ∷ b ∷ c ∷ []) h = none_inside s
past-inside s zero at (a ∷ b ∷ c ∷ d ∷ l) h =
    let t : ℕ = num (a ∷ b ∷ []) in
    let n : ℕ = num (c ∷ d ∷ []) in
    let k : ℕ = cond (holds t) 0 n in
    split (leb n (length l))
    (λ e. let j : n ≤ length l = leb-true _ _ e in
    rw e (more-inside s t at n (met_past k (at + 4) l) (omega arith) (past-inside s k (at + 4) l (omega arith))))
    (λ e. rw e (none_inside s))
past-inside s (suc k) at [] h = none_inside s
past-inside s (suc k) at (x ∷ l) h = past-inside s k (at + 1) l (omega arith)

pub signed-inside : (s : List ℕ) → Inside s (signed_met s)
unfolding met
signed-inside s = past-inside s 0 0 s (omega arith)

-- ---- what the calls give

response-parts : (s : List ℕ) → is_response s ≡ true → parts s ≡ met s 0
response-parts s e = let (l, k, r) = response_read (honest 5) s refl e in parts-met l s k r

-- what is read of a response; its signed structure is the first that is met
pub response-is : (s : List ℕ) → is_response s ≡ true
    → read_response s
    ≡ gave (record { signed = first_signed (met s 0); tag = num_at 2 s 0; status = num_at 2 s 8; fields = field_parts s })
unfolding signed_part num_at
response-is s e = reads-response s e ∙ rw (response-parts s e)

part-stretch : (s : List ℕ) (p : Stretch) → part s (span_of p) ≡ take p.size (drop p.place s)
part-stretch s p = let e : p.place + p.size - p.place ≡ p.size = omega arith in rw e

pub read_signed : (s : List ℕ) {p : Span} → is_response s ≡ true → p ≡ signed_met s
    → gave (part s p) ≡ signed_bytes (read_response s) s
read_signed s e f = rw (response-is s e, f) (ap gave (part-stretch s (first_signed (met s 0))))

-- a response has at most 17 fields
pub few-fields : (s : List ℕ) → is_response s ≡ true → length (field_parts s) ≤ 17
few-fields s e =
    let (l, k, r) = response_read (λ l. honest 5 l && leb (size l) 17) s refl e in
    let n : length (field_parts s) ≡ size l = fields-number l s (and_left (honest 5 l) _ k) r in
    omega (arith, n, leb-true (size l) 17 (and_right (honest 5 l) _ k))

pub read-fields : (ts ps ls : List ℕ) {s tags places lengths : List ℕ} {t status n : ℕ} → is_response s ≡ true → NumberAt 2 s 0 t
    → NumberAt 2 s 8 status → columns tags places lengths n ≡ parts_of (field_parts s)
    → left (Ok (record { tag = t; status = status; count = n })) tags places lengths ≡ reading_of (read_response s) ts ps ls
unfolding reading_of parts_of
read-fields ts ps ls {s} {n = n} e k m f =
    let a : n ≡ length (field_parts s) =
    ap (λ (c : Columns). c.len) f ∙ ap length (take_all 17 (field_parts s) (few-fields s e)) in
    rw (
      response-is s e,
      k.value,
      m.value,
      a,
      ap (λ (c : Columns). c.tags) f,
      ap (λ (c : Columns). c.places) f,
      ap (λ (c : Columns). c.lengths) f,
    )
