-- When a command is broken, and where the fields of one that is not stand, by what was noted of them.
-- Assumes nothing.
use mathlib.Core.Path.{◌≡◌, sym, ap, ◌∙◌}
use mathlib.Core.Bool.{Bool, true, false, not, and-false}
use mathlib.Core.List.{List, [], ◌∷◌, ◌++◌}
use mathlib.Core.Option.{none, some}
use Prim.Native.Nat.{ℕ, ◌+◌, ◌-◌, ◌≤◌, ◌<◌}
use native.Mathlib.Omega.{arith}
use lib.ListN.{length, take, drop, get_or, length-drop, length-append}
use lib.Seq.{take_all}
use lib.Dec.{leb, lit<}
use borrow.Author.Tests.{leb-true, leb-false, le-leb, lt-leb}
use Rattle.model.specs.Lists.{all}
use Rattle.model.specs.Tlv.{Tlv, tlv, tlvs, is_run, Field, key_handle, tag_of, max_command, Kind, fields_of, values_of, times_ok, children_ok, children, broken, fields_in, field_in, fills}
use Rattle.model.proofs.Basics.{split, clash}
use Rattle.tlv.specs.Heads.{head_at, between}
use Rattle.tlv.specs.Spans.{no_span}
use Rattle.tlv.specs.declared.heads.Span.{Span}
use Rattle.tlv.specs.declared.heads.Head.TheVariants.{Bad, End}
use Rattle.tlv.proofs.HeadLaws.{IsTlv, fills-short}
use Rattle.params.specs.Slots.{slots, slot_field, slot_of, least_for, most_for, by_slot, enough}
use Rattle.params.specs.Children.{child_passes, child_taken}
use Rattle.params.specs.Parse.{Placed, HandlesPlaced, no_params, picked, params_at, ParamsRead, HandlesRead}
use Rattle.params.specs.declared.parse.Params.{Params}
use Rattle.params.proofs.KindLaws.{slot_tag, most-room, listed-slot, listed-most, not_taken}
use Rattle.params.proofs.TimesLaws.{enough-is, too_many}
use Rattle.params.proofs.ChildLaws.{Follows, walked_end, walked_bad, walked-fails, all-fails, values-own, values_stay}
use Rattle.params.proofs.SlotLaws.{Noted}

-- ---- when a command is broken

children-whole : (s : List ℕ) → fills s ≡ true → children s ≡ tlvs (drop 4 s)
unfolding children
children-whole s e = rw e

children-cut : (s : List ℕ) → fills s ≡ false → children s ≡ none
unfolding children
children-cut s e = rw e

-- all bytes past the header are a part
pub rest_part : (s : List ℕ) → take (length s - 4) (drop 4 s) ≡ drop 4 s
rest_part s = take_all (length s - 4) (drop 4 s) (simp length-drop (omega arith))

pub whole-place : (s : List ℕ) → fills s ≡ true → 4 ≤ length s
whole-place s e = split (leb 4 (length s)) (leb-true _ _) (λ f. clash e (fills-short s (leb-false _ _ f)))

pub whole_follows : (s run : List ℕ) → fills s ≡ true → run ≡ drop 4 s → Follows s run
whole_follows s run e d = record { header = whole-place s e; run_is = d }

module _ (k : Kind) (s : List ℕ) where
  pub broken_long : max_command < length s → broken k s ≡ true
  unfolding broken
  broken_long h = simp (lt-leb _ _ h)

  pub broken-cut : fills s ≡ false → broken k s ≡ true
  unfolding broken
  broken-cut e = rw (children-cut s e, and-false)

  broken-run : fills s ≡ true → is_run (children_ok (fields_of k)) (tlvs (drop 4 s)) ≡ false → broken k s ≡ true
  unfolding broken
  broken-run e f = rw (children-whole s e, f, and-false)

-- all children passed, so that the numbers decide
broken-times : (k : Kind) (s : List ℕ) (held : List Tlv) → length s ≤ max_command → children s ≡ some held
    → all (child_passes k) held ≡ true → broken k s ≡ not (all (times_ok held) (fields_of k))
unfolding broken children_ok child_passes
broken-times k s held h e f = rw (le-leb _ _ h, e, f)

pub read_broken : {k : Kind} {s places : List ℕ} {r : Params} → broken k s ≡ true → r ≡ no_params
    → ParamsRead k s r × HandlesRead k s places r.handle_count
read_broken b e = (
  record { broken-is = rw e (sym b); if_broken = λ h. e; unless_broken = λ h. clash b h },
  record { unless_broken = λ h. clash b h },
)

-- ---- a turn at what is no child, or at one that is not taken

module _ {k : Kind} {s times : List ℕ} {first : List Span} {handles : List ℕ} {at : ℕ} (so_far : Noted k s times first handles at)
    (whole : fills s ≡ true) where
  pub broken_bad : head_at s at ≡ Bad → broken k s ≡ true
  broken_bad e = broken-run k s whole (rw (walked_bad so_far.walked e))

  module _ {tag start end : ℕ} (i : IsTlv s at tag start end) where
    abbrev child : Tlv
    child = tlv tag (between s start end)

    abbrev now_held : List Tlv
    now_held = so_far.held ++ (child ∷ [])

    broken-child : child_passes k child ≡ false → broken k s ≡ true
    unfolding children_ok child_passes
    broken-child e =
        broken-run k s whole (walked-fails so_far.walked i (children_ok (fields_of k))
        (λ ts. rw (all-fails (child_passes k) child so_far.held ts e)))

    broken-many : (slot : ℕ) → slot < slots → tag ≡ tag_of (slot_field slot) → (most_for k (slot_field slot) ≡ 0 → ⊥)
        → most_for k (slot_field slot) ≤ get_or times slot 0 → broken k s ≡ true
    unfolding children_ok
    broken-many slot h own z l =
        let f : Field = slot_field slot in
        let grown : length (values_of f now_held) ≡ length (values_of f so_far.held) + 1 =
        rw (values-own f so_far.held tag (between s start end) own) (simp length-append) in
        broken-run k s whole (walked-fails so_far.walked i (children_ok (fields_of k))
        (λ ts. let more : most_for k f < length (values_of f (now_held ++ ts)) =
        omega (arith, values_stay f now_held ts, grown, (so_far.counted slot h).count, l) in
        rw (too_many k (now_held ++ ts) slot h z more, and-false)))

    pub broken-refused : {slot most : ℕ} {b : Bool} {v : List ℕ} → slot ≡ slot_of tag → most ≡ get_or (by_slot (most_for k)) slot 0
        → v ≡ between s start end → b ≡ child_taken slot most (get_or times slot 0) (tlv tag v) → b ≡ false → broken k s ≡ true
    broken-refused {slot} {most} s-is m-is v-is told refused =
        let e : child_taken slot most (get_or times slot 0) child ≡ false =
        ap (λ (x : List ℕ). child_taken slot most (get_or times slot 0) (tlv tag x)) (sym v-is) ∙ sym told ∙ refused in
        not_taken k child s-is m-is (get_or times slot 0) e broken-child
        (λ z l. let h : slot < slots = listed-slot k child s-is m-is z in
        let m : most ≡ most_for k (slot_field slot) = listed-most k child s-is m-is z in
        broken-many slot h (sym (rw s-is (slot_tag tag (rw s-is at h)))) (rw m at z) (rw m at l))

-- ---- where all children were taken

module _ {k : Kind} {s times : List ℕ} {first : List Span} {handles : List ℕ} {at : ℕ} (all_Noted : Noted k s times first handles at)
    (e : head_at s at ≡ End) (short : length s ≤ max_command) (whole : fills s ≡ true) where
  abbrev held : List Tlv
  held = all_Noted.held

  held_is : children s ≡ some held
  held_is = children-whole s whole ∙ walked_end all_Noted.walked e

  values-in : (f : Field) → fields_in f s ≡ values_of f held
  unfolding fields_in
  values-in f = rw held_is

  broken-is : broken k s ≡ not (enough (by_slot (least_for k)) times)
  broken-is =
      let same : enough (by_slot (least_for k)) times ≡ all (times_ok held) (fields_of k) =
      enough-is k held times all_Noted.counts (λ j h. (all_Noted.counted j h).count)
      (λ j h. omega (arith, (all_Noted.counted j h).count, (all_Noted.counted j h).few)) in
      rw same (broken-times k s held short held_is all_Noted.passed)

  -- the first value of a slot's field
  placed_at : (slot : ℕ) → slot < 9 → Placed s (slot_field slot) (get_or first slot no_span)
  unfolding field_in
  placed_at slot h =
      let i = all_Noted.firsts slot h in
      record { inside = i.inside; value = rw (values-in (slot_field slot)) i.value }

  -- all key handles
  handles_placed : HandlesPlaced s handles (get_or times 9 0)
  handles_placed =
      let i = all_Noted.rows_are in
      record {
        few = omega (arith, all_Noted.eight, (all_Noted.counted 9 (lit< tt)).few, most-room k 9 (lit< tt));
        inside = i.inside;
        values = rw (values-in key_handle) i.values;
      }

  read_picked : broken k s ≡ false → ParamsRead k s (picked first (get_or times 9 0))
  read_picked b =
      record {
        broken-is = sym b;
        if_broken = λ h. clash h b;
        unless_broken = λ h. record {
          app-id = placed_at 1 (lit< tt);
          challenge-hash = placed_at 2 (lit< tt);
          username = placed_at 3 (lit< tt);
          attestation-type = placed_at 4 (lit< tt);
          access-token = placed_at 7 (lit< tt);
          key-id = placed_at 6 (lit< tt);
          transaction-content = placed_at 5 (lit< tt);
        };
      }

  -- the whole answer
  pub read_all : {least : List ℕ} → least ≡ by_slot (least_for k) → {r : Params} → r ≡ params_at least times first
      → ParamsRead k s r × HandlesRead k s handles r.handle_count
  unfolding params_at
  read_all l p =
      split (enough (by_slot (least_for k)) times)
      (λ h. rw (p, l, h) (read_picked (broken-is ∙ rw h), record { unless_broken = λ b. handles_placed }))
      (λ h. read_broken (broken-is ∙ rw h) (p ∙ rw (l, h)))
