-- The names and KeyIDs of some records as they are written: one pair, and one pair after another; and how many bytes they take.
-- Assumes nothing.
use mathlib.Core.Path.{◌≡◌, refl, ap}
use mathlib.Core.List.{List, [], ◌∷◌, ◌++◌, map-append, append_assoc}
use mathlib.Core.Bool.{true}
use Prim.Native.Nat.{ℕ, zero, suc, ◌+◌, ◌*◌, ◌≤◌, ◌<◌}
use native.Mathlib.Numerals.{add-one}
use native.Mathlib.Omega.{arith}
use lib.ListN.{length, get_or, take, length-append}
use lib.Seq.{take-suc}
use Rattle.std.specs.List.{sum_by}
use Rattle.std.proofs.lemmas.List.Sums.{sum_by-cons}
use Rattle.model.specs.Tlv.{le, tlv, bytes, header, pair_tag}
use Rattle.model.specs.Layouts.{fill, write}
use Rattle.model.specs.Records as model
use Rattle.model.proofs.Rules.{obeys_rules}
use Rattle.tlv.specs.Writing.{Wrote}
use Rattle.tlv.proofs.WriteLaws.{then, then_run, then_value, same, wrote_none}
use Rattle.stored_table.specs.Stored.{no_record}
use Rattle.stored_table.specs.Chosen.{records_at}
use Rattle.replies.specs.Writes.{pairs_of}
use Rattle.replies.specs.Replies.{pairs_size}

-- ---- a pair

pairs_one : (r : model.Record) → bytes (tlv pair_tag (bytes (tlv 0x2806 r.name ∷ tlv 0x2801 r.key_id ∷ [])) ∷ []) ≡ pairs_of (r ∷ [])
unfolding pairs_of write fill
pairs_one r = refl

-- a header, and the two fields one after the other
pub wrote_pair : (r : model.Record) {d d₁ d₂ d₃ v k : List ℕ} {at a₁ a₂ a₃ n : ℕ} → n ≡ length r.name → v ≡ r.name
    → (k ≡ r.key_id) × (length k ≡ 32)
    → Wrote d at (header pair_tag (40 + n)) 4 d₁ a₁
    → Wrote d₁ a₁ (bytes (tlv 0x2806 v ∷ [])) (4 + length v) d₂ a₂
    → Wrote d₂ a₂ (bytes (tlv 0x2801 k ∷ [])) (4 + length k) d₃ a₃
    → Wrote d at (pairs_of (r ∷ [])) (44 + length r.name) d₃ a₃
wrote_pair r {d₁ = d₁} {d₃ = d₃} {a₁ = a₁} {a₃ = a₃} {n = n} l e f q x y =
    let w : Wrote d₁ a₁ (bytes (tlv 0x2806 r.name ∷ tlv 0x2801 r.key_id ∷ [])) (40 + n) d₃ a₃ =
    rw (← e, ← f.0) (same refl (omega (arith, l, ap length e, f.1)) (then_run _ _ x y)) in
    same (pairs_one r) (omega (arith, l)) (then_value pair_tag q w)

-- ---- one pair after another

pairs-append : (a b : model.Table) → pairs_of (a ++ b) ≡ pairs_of a ++ pairs_of b
unfolding pairs_of write fill bytes
pairs-append [] b = refl
pairs-append (r ∷ a) b = rw (pairs-append a b) (simp append_assoc)

size-append : (a b : model.Table) → pairs_size (a ++ b) ≡ pairs_size a + pairs_size b
size-append [] b = omega arith
size-append (r ∷ a) b = omega (arith, size-append a b)

-- nothing written yet
pub pairs_none : (d : List ℕ) (at : ℕ) → at ≤ length d → Wrote d at (pairs_of []) 0 d at
unfolding pairs_of write fill bytes
pairs_none d at h = wrote_none d at h

module _ (t : model.Table) (is : List ℕ) (i : ℕ) (h : i < length is) where
  abbrev next : model.Record
  next = get_or t (get_or is i 0) no_record

  records-more : records_at t (take (i + 1) is) ≡ records_at t (take i is) ++ (next ∷ [])
  records-more = rw (add-one, take-suc is i 0 h, map-append (λ j. get_or t j no_record) (take i is) (get_or is i 0 ∷ []))

  -- one record more: its pair is counted, and written
  size-more : pairs_size (records_at t (take (i + 1) is)) ≡ pairs_size (records_at t (take i is)) + (44 + length next.name)
  size-more = rw records-more (omega (arith, size-append (records_at t (take i is)) (next ∷ [])))

  pub pairs-more : {d d₁ d₂ : List ℕ} {at e₁ e₂ : ℕ}
      → Wrote d at (pairs_of (records_at t (take i is))) (pairs_size (records_at t (take i is))) d₁ e₁
      → Wrote d₁ e₁ (pairs_of (get_or t (get_or is i 0) no_record ∷ [])) (44 + length (get_or t (get_or is i 0) no_record).name) d₂ e₂
      → Wrote d at (pairs_of (records_at t (take (i + 1) is))) (pairs_size (records_at t (take (i + 1) is))) d₂ e₂
  pairs-more p q = same (rw (records-more, pairs-append (records_at t (take i is)) (next ∷ []))) (rw size-more) (then p q)

-- ---- how many bytes they take

-- no more than those of more records
size-part : (t : model.Table) (is : List ℕ) (i : ℕ) → i ≤ length is → pairs_size (records_at t (take i is)) ≤ pairs_size (records_at t is)
size-part t is zero h = omega arith
size-part t [] (suc i) h = omega arith
size-part t (j ∷ is) (suc i) h = omega (arith, size-part t is i (omega arith))

size-one : (r : model.Record) (rs : model.Table) → length r.key_id ≡ 32
    → length (pairs_of (r ∷ rs)) ≡ 44 + length r.name + length (pairs_of rs)
unfolding pairs_of write fill bytes le
size-one r rs h = simp length-append (omega arith)

-- by the rules a KeyID has 32 bytes
pub sized : (t : model.Table) → model.table_ok t ≡ true → (is : List ℕ) → ((i : ℕ) → i < length is → get_or is i 0 < length t)
    → length (pairs_of (records_at t is)) ≡ pairs_size (records_at t is)
unfolding pairs_of write fill bytes
sized t ok [] each = refl
sized t ok (j ∷ is) each =
    let r = (obeys_rules t ok).each j (each 0 (omega arith)) in
    let rest = sized t ok is (λ i h. each (suc i) (omega arith)) in
    omega (arith, size-one (get_or t j no_record) (records_at t is) r.key-id, rest)

-- and a name at most 128
pub sized-most : (t : model.Table) → model.table_ok t ≡ true → (is : List ℕ) → ((i : ℕ) → i < length is → get_or is i 0 < length t)
    → pairs_size (records_at t is) ≤ 172 * length is
sized-most t ok [] each = omega arith
sized-most t ok (j ∷ is) each =
    let r = (obeys_rules t ok).each j (each 0 (omega arith)) in
    let rest = sized-most t ok is (λ i h. each (suc i) (omega arith)) in
    omega (arith, r.name-most, rest)

-- ---- the records that are named

pub pairs-sum : (t : model.Table) (is : List ℕ)
    → pairs_size (records_at t is) ≡ 44 * length is + sum_by (λ j. length (get_or t j no_record).name) is
pairs-sum t [] = refl
pairs-sum t (j ∷ is) = omega (arith, pairs-sum t is, sum_by-cons (λ j. length (get_or t j no_record).name) j is)

-- the pair of the next of them has room beside those before it
pub next-room : (t : model.Table) (named : List ℕ) (i : ℕ) → i < length named
    → pairs_size (records_at t (take i named)) + (44 + length (get_or t (get_or named i 0) no_record).name) ≤ pairs_size (records_at t named)
next-room t named i h = omega (arith, size-more t named i h, size-part t named (i + 1) (omega (arith, h)))
