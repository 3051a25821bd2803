-- Each child by its header: taken, it is noted, or skipped; refused, the command is broken.
use native.Mathlib.Omega.{arith}
use mathlib.Core.Path.{◌≡◌, sym, ap}
use mathlib.Core.List.{List}
use Prim.Native.Nat.{ℕ, ◌<◌}
use lib.ListN.{get_or, length-set}
use Rattle.model.specs.Tlv as model
use Rattle.tlv.specs.Heads.{head_at}
use Rattle.tlv.specs.declared.heads.Head.TheVariants.{Tlv}
use Rattle.tlv.proofs.HeadLaws.{IsTlv, tlv-is}
use Rattle.params.specs.Slots.{slots, most_for, by_slot, listing_for}
use Rattle.params.specs.declared.kinds.Listing.{Listing}
use Rattle.params.proofs.KindLaws.{taken_place}
use Rattle.params.proofs.ChildLaws.{past_end, past_bad, past-tlv, past_value}
use Rattle.params.proofs.SlotLaws.{noted_none, noted_skip, noted-handle, noted-first}
use Rattle.params.proofs.ParseLaws.{whole_follows, broken_bad, broken-refused, read_broken, read_all}
use Rattle.params.proofs.parse.read_children.Goals as goal
use Rattle.params.proofs.parse.read_children.Goals.{Then-most-gt0, then-slot-eq-KEY_HANDLE, else-slot-eq-KEY_HANDLE}

-- how often the field of a slot may be given
most-is : (k : model.Kind) {r : Listing} (slot : ℕ) → r ≡ listing_for k → get_or r.most slot 0 ≡ get_or (by_slot (most_for k)) slot 0
most-is k slot e = ap (λ (r : Listing). get_or r.most slot 0) e

-- a TLV was found
found : {s : List ℕ} {at tag start end : ℕ} → Tlv tag start end ≡ head_at s at → IsTlv s at tag start end
found e = tlv-is _ _ _ _ _ (sym e)

pub loop-times-init : goal.loop-times-init
loop-times-init c = (c.requires, noted_none _ _ _ c.requires)

pub returns-in-End : goal.returns-in-End
returns-in-End c =
    record {
      answers = λ s short whole e. let f = whole_follows s _ whole e in
          read_all (c.loop-times.invariant.1 s f)
          (past_end f _ (sym c.in-End.ensures)) short whole
          (ap (λ (r : Listing). r.least) c.listed-listing.ensures) c.params_at.ensures;
    }

pub returns-in-Bad : goal.returns-in-Bad
returns-in-Bad c =
    record {
      answers = λ s short whole e. let f = whole_follows s _ whole e in
          read_broken
          (broken_bad (c.loop-times.invariant.1 s f) whole
          (past_bad f _ (sym c.in-Bad.ensures)))
          c.no_params.ensures;
    }

pub returns-then-not-is_taken : goal.returns-then-not-is_taken
returns-then-not-is_taken c =
    let i = found c.in-Tlv.ensures in
    record {
      answers = λ s short whole e. let f = whole_follows s _ whole e in
          read_broken
          (broken-refused (c.loop-times.invariant.1 s f) whole (past-tlv f i)
          c.slot_of-slot.ensures (most-is _ _ c.listed-listing.ensures) (past_value f i) c.is_taken.ensures c.if-not-is_taken.true)
          c.no_params-then-not-is_taken.ensures;
    }

-- there is a place for a child that is listed
placed : (c : Then-most-gt0) → let n = get_or c.loop-times.times c.slot_of-slot.result 0 in
    (n < 8) × (c.slot_of-slot.result < slots)
placed c =
    taken_place _ _ _ c.slot_of-slot.ensures (most-is _ _ c.listed-listing.ensures) c.is_taken.ensures c.if-not-is_taken.false
    c.if-most-gt0.true

pub loop-times-preserved-after-slot-eq-KEY_HANDLE : goal.loop-times-preserved-after-slot-eq-KEY_HANDLE
loop-times-preserved-after-slot-eq-KEY_HANDLE c =
    let i = found c.in-Tlv.ensures in
    let so_far = c.loop-times.invariant in
    let some : get_or c.listed-listing.result.most c.slot_of-slot.result 0 ≡ 0 → ⊥ = λ z. omega (arith, c.if-most-gt0.true) in
    elim c.if-slot-eq-KEY_HANDLE.branch [
      | then-slot-eq-KEY_HANDLE w ↦ (
        rw (w.handles-is, length-set) so_far.0,
        λ s f. rw (w.handles-is, w.first-is)
            (noted-handle (past-tlv f i) (so_far.1 s f) c.slot_of-slot.ensures
            (most-is _ _ c.listed-listing.ensures) (past_value f i) c.is_taken.ensures c.if-not-is_taken.false
            some w.if-slot-eq-KEY_HANDLE.true),
      )
      | else-slot-eq-KEY_HANDLE w ↦ (
        rw w.handles-is so_far.0,
        λ s f. rw (w.handles-is, w.first-is)
            (noted-first (past-tlv f i) (so_far.1 s f) c.slot_of-slot.ensures
            (most-is _ _ c.listed-listing.ensures) (past_value f i) c.is_taken.ensures c.if-not-is_taken.false
            some w.if-slot-eq-KEY_HANDLE.false),
      )
    ]

pub loop-times-preserved : goal.loop-times-preserved
loop-times-preserved c =
    let i = found c.in-Tlv.ensures in (
      c.loop-times.invariant.0,
      λ s f. noted_skip (past-tlv f i) (c.loop-times.invariant.1 s f) c.slot_of-slot.ensures
          (most-is _ _ c.listed-listing.ensures) (past_value f i) c.is_taken.ensures
          c.if-not-is_taken.false (omega (arith, c.if-most-gt0.false)),
    )

pub slice_bounds-is_taken-count : goal.slice_bounds-is_taken-count
slice_bounds-is_taken-count c = omega (arith, found c.in-Tlv.ensures)

pub slice_bounds-is_taken-start : goal.slice_bounds-is_taken-start
slice_bounds-is_taken-start c = omega (arith, found c.in-Tlv.ensures)

pub slice_bounds-is_taken-end : goal.slice_bounds-is_taken-end
slice_bounds-is_taken-end c = omega (arith, found c.in-Tlv.ensures)

pub overflow_add-handles : goal.overflow_add-handles
overflow_add-handles c = omega (arith, found c.in-Tlv.ensures, c.well_formed.0)

pub overflow_cast-handles : goal.overflow_cast-handles
overflow_cast-handles c = omega (arith, placed (goal.at.overflow_cast-handles c).Then-most-gt0)

pub offset_bounds-handles-n : goal.offset_bounds-handles-n
offset_bounds-handles-n c = omega (arith, placed (goal.at.offset_bounds-handles-n c).Then-most-gt0)

pub bounds-handles-n : goal.bounds-handles-n
bounds-handles-n c = omega (arith, placed (goal.at.bounds-handles-n c).Then-most-gt0, c.loop-times.invariant.0)

pub overflow_add-first : goal.overflow_add-first
overflow_add-first c = omega (arith, found c.in-Tlv.ensures, c.well_formed.0)

pub overflow_add-first-else-slot-eq-KEY_HANDLE : goal.overflow_add-first-else-slot-eq-KEY_HANDLE
overflow_add-first-else-slot-eq-KEY_HANDLE c = omega (arith, found c.in-Tlv.ensures, c.well_formed.0)

pub overflow_add-times : goal.overflow_add-times
overflow_add-times c = omega (arith, placed (goal.at.overflow_add-times c).Then-most-gt0)

pub loop-times-smaller-after-slot-eq-KEY_HANDLE : goal.loop-times-smaller-after-slot-eq-KEY_HANDLE
loop-times-smaller-after-slot-eq-KEY_HANDLE c = omega (arith, found c.in-Tlv.ensures)

pub loop-times-smaller : goal.loop-times-smaller
loop-times-smaller c = omega (arith, found c.in-Tlv.ensures)
