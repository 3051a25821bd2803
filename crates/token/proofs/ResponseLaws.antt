-- What the entries of the reader return, from what the functions below them give.
-- Assumes nothing.
use mathlib.Core.Path.{◌≡◌, ap}
use mathlib.Core.Bool.{true, false}
use mathlib.Core.List.{List}
use Prim.Native.Nat.{ℕ, ◌+◌, ◌-◌, ◌≤◌}
use native.Mathlib.Omega.{arith}
use Rattle.std.specs.Prelude as std
use Rattle.std.specs.Prelude.{Ok, Err}
use lib.ListN.{length}
use Rattle.model.specs.Commands.{Result, refused, gave}
use Rattle.model.specs.Reader as model
use Rattle.fields.specs.Refusals.{number}
use Rattle.fields.specs.declared.refusals.Refusal.{Refusal}
use Rattle.model.specs.Reader.{Stretch, is_response, read_response}
use Rattle.model.proofs.Basics.{impossible}
use Rattle.model.proofs.Refusals.{not_read}
use Rattle.tlv.specs.declared.heads.Span.{Span}
use Rattle.response_reader.specs.Met.{met, span_of, signed_met}
use Rattle.response_reader.specs.Readings.{Left, left, reading_of}
use Rattle.response_reader.specs.declared.readings.Reading.{Reading}
use Rattle.response_reader.proofs.SignedLaws.{first_signed}
use Rattle.response_reader.proofs.ReadingLaws.{signed-inside, response-is}
use Rattle.token.specs.Responses.{points, pointed, ReturnedFields, gets_fields, returned_fields}

-- ---- the signed structure

pub point_refused : (s : List ℕ) (p n : ℕ) → is_response s ≡ false → points 5 p n ≡ pointed (read_response s) (points 0 p n)
unfolding pointed
point_refused s p n e = rw (not_read s e)

pub point_ordered : (s : List ℕ) {r : Span} → r ≡ signed_met s → r.start ≤ r.end
point_ordered s e = rw e (signed-inside s).ordered

-- a stretch as a part, told by its place and its length
stretch_as : (x : Stretch) → points 0 (span_of x).start ((span_of x).end - (span_of x).start) ≡ points 0 x.place x.size
stretch_as x = let e : x.place + x.size - x.place ≡ x.size = omega arith in rw e

pub point_gave : (s : List ℕ) (p n : ℕ) {r : Span} → is_response s ≡ true → r ≡ signed_met s
    → points 0 r.start (r.end - r.start) ≡ pointed (read_response s) (points 0 p n)
unfolding pointed
point_gave s p n e f = rw (response-is s e, f) (stretch_as (first_signed (met s 0)))

-- ---- the fields

module _ (s : List ℕ) (b : ReturnedFields) {x : std.Result Reading Refusal} {ts ps ls : List ℕ}
    (f : left x ts ps ls ≡ reading_of (read_response s) b.tags b.places b.lengths) where
  pub list_refused : (r : Refusal) {n : ℕ} → x ≡ Err r → n ≡ number r
      → gets_fields n b.tag b.status b.count ts ps ls ≡ returned_fields (read_response s) b
  unfolding returned_fields reading_of
  list_refused r {n} e k = rw k (go (read_response s) (rw e at f))
    where
      go : (o : Result model.Reading) → left (Err r) ts ps ls ≡ reading_of o b.tags b.places b.lengths
          → gets_fields (number r) b.tag b.status b.count ts ps ls ≡ returned_fields o b
      go (refused m) g =
          let says : refused (number r) ≡ refused m = ap (λ (y : Left). y.reading) g in
          let same : number r ≡ m = cc in
          rw (same, ap (λ (y : Left). y.tags) g, ap (λ (y : Left). y.places) g, ap (λ (y : Left). y.lengths) g)
      go (gave y) g = let says = ap (λ (z : Left). z.reading) g in impossible cc

  pub list_gave : (r : Reading) → x ≡ Ok r
      → gets_fields 0 r.tag r.status r.count ts ps ls ≡ returned_fields (read_response s) b
  unfolding returned_fields reading_of
  list_gave r e = go (read_response s) (rw e at f)
    where
      go : (o : Result model.Reading) → left (Ok r) ts ps ls ≡ reading_of o b.tags b.places b.lengths
          → gets_fields 0 r.tag r.status r.count ts ps ls ≡ returned_fields o b
      go (refused m) g = let says = ap (λ (z : Left). z.reading) g in impossible cc
      go (gave y) g =
          let says = ap (λ (z : Left). z.reading) g in
          let same : r ≡ record { tag = y.tag; status = y.status; count = length y.fields } = cc in
          rw (same, ap (λ (z : Left). z.tags) g, ap (λ (z : Left). z.places) g, ap (λ (z : Left). z.lengths) g)
