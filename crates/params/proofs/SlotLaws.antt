-- The values of a command's fields noted child by child: how often each slot was given, where the first of its values stands, and where the key
-- handles stand.
-- Assumes nothing.
use mathlib.Core.Path.{◌≡◌, refl, sym, ap, ◌∙◌}
use mathlib.Core.Bool.{Bool, true}
use mathlib.Core.List.{List, [], ◌∷◌, ◌++◌}
use Prim.Native.Nat.{ℕ, suc, ◌+◌, ◌-◌, ◌≤◌, ◌<◌}
use native.Mathlib.Nat.{add-zero}
use native.Mathlib.Numerals.{add-one}
use native.Mathlib.Omega.{arith}
use lib.ListN.{length, take, get_or, set, replicate, length-set, length-append, get_or-replicate}
use lib.Seq.{get_or-set_same, get_or-set_other, get_or_at, take-suc-set}
use lib.Dec.{eqb, lit<}
use borrow.Author.Tests.{eqb-true, eqb-false, ne_eqb}
use Rattle.model.specs.Lists.{all}
use Rattle.model.specs.Tlv.{Tlv, tlv, Kind, key_handle, tag_of, values_of}
use Rattle.model.proofs.Basics.{split, both, all_append}
use Rattle.model.proofs.LayoutLaws.{fits-least, fits-most}
use Rattle.tlv.specs.Heads.{between, part}
use Rattle.tlv.specs.Rows.{rows, row, Within}
use Rattle.tlv.specs.Spans.{span, Inside, no_span}
use Rattle.tlv.specs.declared.heads.Span.{Span}
use Rattle.tlv.proofs.HeadLaws.{IsTlv, length_part}
use Rattle.tlv.proofs.RowLaws.{rows_more, within_more}
use Rattle.params.specs.Slots.{slots, slot_field, slot_of, most_for, by_slot}
use Rattle.params.specs.Children.{child_passes, child_taken}
use Rattle.params.proofs.KindLaws.{slot_tag, slot_own, room, listed-slot, listed-most, taken-passes, taken-few, taken-fits, taken-room, taken-past}
use Rattle.params.proofs.ChildLaws.{Follows, Walked, walked_none, walked_more, values-own, values_other}

-- ---- one slot

-- a slot was given so many times, no more than a command allows
pub record Counted (k : Kind) (j : ℕ) (vs : List (List ℕ)) (n : ℕ) : Type 0 where
  pub count : n ≡ length vs
  pub few : n ≤ most_for k (slot_field j)

-- its first value stands at a part of the command, which is empty where there is none
pub record FirstAt (s : List ℕ) (vs : List (List ℕ)) (p : Span) : Type 0 where
  pub inside : Inside s p
  pub value : part s p ≡ get_or vs 0 []

-- the values stand at the first n of some places
pub record RowsAt (s : List ℕ) (vs : List (List ℕ)) (n : ℕ) (places : List ℕ) : Type 0 where
  pub inside : Within 0 (take n places) s
  pub values : rows 0 (take n places) s ≡ vs

-- ---- all slots

-- up to a place all children pass, and each slot is noted: the key handles, whose slot is the last, in an array of their own
pub record Noted (k : Kind) (s times : List ℕ) (first : List Span) (handles : List ℕ) (at : ℕ) : Type 0 where
  pub held : List Tlv
  pub walked : Walked s at held
  pub passed : all (child_passes k) held ≡ true
  pub counts : length times ≡ suc slots
  pub nine : length first ≡ 9
  pub eight : length handles ≡ 8
  pub counted : (j : ℕ) → j < slots → Counted k j (values_of (slot_field j) held) (get_or times j 0)
  pub firsts : (j : ℕ) → j < 9 → FirstAt s (values_of (slot_field j) held) (get_or first j no_span)
  pub rows_are : RowsAt s (values_of key_handle held) (get_or times 9 0) handles

-- whichever command of the kind has this child run, in which a place is reached
abbrev pub NotedBy : Kind → (run times : List ℕ) → List Span → (handles : List ℕ) → ℕ → Type 0
NotedBy k run times first handles at = (s : List ℕ) → Follows s run → Noted k s times first handles (4 + at)

pub noted_none : (k : Kind) (run handles : List ℕ) → length handles ≡ 8
    → NotedBy k run (replicate (suc slots) 0) (replicate 9 no_span) handles 0
unfolding rows
noted_none k run handles e s f =
    record {
      held = [];
      walked = walked_none s;
      passed = refl;
      counts = refl;
      nine = refl;
      eight = e;
      counted = λ j h. record {
        count = get_or-replicate {A = ℕ} (suc slots) j 0 0 (omega arith);
        few = rw (get_or-replicate {A = ℕ} (suc slots) j 0 0 (omega arith)) (omega arith);
      };
      firsts = λ j h. rw (get_or-replicate 9 j no_span no_span h)
          (record { inside = record { ordered = omega arith; within = omega arith }; value = refl });
      rows_are = record { inside = record { each = λ i l. absurd (omega arith) }; values = refl };
    }

-- a turn at a child that is taken
module _ {k : Kind} {s times : List ℕ} {first : List Span} {handles : List ℕ} {at tag start end : ℕ} (i : IsTlv s at tag start end)
    (so_far : Noted k s times first handles at) {slot most : ℕ} {b : Bool} {v : List ℕ} (s-is : slot ≡ slot_of tag)
    (m-is : most ≡ get_or (by_slot (most_for k)) slot 0) (v-is : v ≡ between s start end)
    (told : b ≡ child_taken slot most (get_or times slot 0) (tlv tag v)) (passes : b ≡ true) where
  abbrev child : Tlv
  child = tlv tag (between s start end)

  taken : child_taken slot most (get_or times slot 0) child ≡ true
  taken = ap (λ (x : List ℕ). child_taken slot most (get_or times slot 0) (tlv tag x)) (sym v-is) ∙ sym told ∙ passes

  abbrev now_held : List Tlv
  now_held = so_far.held ++ (child ∷ [])

  all_passed : all (child_passes k) now_held ≡ true
  all_passed =
      all_append (child_passes k) so_far.held (child ∷ []) so_far.passed
      (both (taken-passes k child s-is m-is (get_or times slot 0) taken) refl)

  -- the slots of other tags stay as they are
  stays : (j : ℕ) → j < slots → (j ≡ slot → ⊥) → values_of (slot_field j) now_held ≡ values_of (slot_field j) so_far.held
  stays j h d = values_other (slot_field j) so_far.held tag _ (λ e. d (sym (slot_own j h) ∙ ap slot_of (sym e) ∙ sym s-is))

  -- and is skipped
  pub noted_skip : most ≡ 0 → Noted k s times first handles end
  noted_skip z =
      let past : slots ≤ slot = taken-past k child s-is m-is (get_or times slot 0) taken z in
      record {
        held = now_held;
        walked = walked_more so_far.walked i;
        passed = all_passed;
        counts = so_far.counts;
        nine = so_far.nine;
        eight = so_far.eight;
        counted = λ j h. rw (stays j h (λ e. omega arith)) (so_far.counted j h);
        firsts = λ j h. rw (stays j (omega arith) (λ e. omega arith)) (so_far.firsts j h);
        rows_are = rw (stays 9 (lit< tt) (λ e. omega arith)) so_far.rows_are;
      }

  -- and is noted
  module _ (z : most ≡ 0 → ⊥) where
    slot-in : slot < slots
    slot-in = listed-slot k child s-is m-is z

    below-most : get_or times slot 0 < most_for k (slot_field slot)
    below-most = rw (listed-most k child s-is m-is z) at (taken-few k child s-is m-is (get_or times slot 0) taken z)

    below-room : get_or times slot 0 < room slot
    below-room = taken-room k child s-is m-is (get_or times slot 0) taken z

    abbrev times' : List ℕ
    times' = set times slot (get_or times slot 0 + 1)

    abbrev v' : List ℕ
    v' = between s start end

    own : tag ≡ tag_of (slot_field slot)
    own = sym (rw s-is (slot_tag tag (rw s-is at slot-in)))

    -- the slot's values
    grown : values_of (slot_field slot) now_held ≡ values_of (slot_field slot) so_far.held ++ (v' ∷ [])
    grown = values-own (slot_field slot) so_far.held tag v' own

    counted-now : get_or times' slot 0 ≡ get_or times slot 0 + 1
    counted-now = get_or-set_same times slot (get_or times slot 0 + 1) 0 (omega (arith, slot-in, so_far.counts))

    counted-more : (j : ℕ) → j < slots → Counted k j (values_of (slot_field j) now_held) (get_or times' j 0)
    counted-more j h =
        split (eqb j slot)
        (λ d. rw (eqb-true j slot d, grown, counted-now)
        (record { count = simp length-append (omega (arith, (so_far.counted slot slot-in).count)); few = omega (arith, below-most) }))
        (λ d. let e = eqb-false j slot d in rw (stays j h e, get_or-set_other times slot j (get_or times slot 0 + 1) 0 e) (so_far.counted j h))

    -- the other slots' first values
    firsts-stay : (j : ℕ) → j < 9 → (j ≡ slot → ⊥) → FirstAt s (values_of (slot_field j) now_held) (get_or first j no_span)
    firsts-stay j h d = rw (stays j (omega arith) d) (so_far.firsts j h)

    more : (first' : List Span) (handles' : List ℕ) → length first' ≡ 9 → length handles' ≡ 8
        → ((j : ℕ) → j < 9 → FirstAt s (values_of (slot_field j) now_held) (get_or first' j no_span))
        → RowsAt s (values_of key_handle now_held) (get_or times' 9 0) handles' → Noted k s times' first' handles' end
    more first' handles' f h e r =
        record {
          held = now_held;
          walked = walked_more so_far.walked i;
          passed = all_passed;
          counts = length-set times slot _ ∙ so_far.counts;
          nine = f;
          eight = h;
          counted = counted-more;
          firsts = e;
          rows_are = r;
        }

    -- among the key handles, each of which has 32 bytes
    module _ (d : slot ≡ 9) where
      size : end - start ≡ 32
      size =
          let fit = rw d at (taken-fits k child s-is m-is (get_or times slot 0) taken z) in
          let n : length v' ≡ end - start = length_part (record { ordered = i.ordered; within = i.within }) in
          let least : 32 ≤ length v' = fits-least key_handle v' fit in
          let most : length v' ≤ 32 = fits-most key_handle v' fit in
          omega arith

      row_is : row start s ≡ v'
      row_is = rw size

      rows_grown : RowsAt s (values_of key_handle now_held) (get_or times' 9 0) (set handles (get_or times slot 0) start)
      rows_grown =
          let n : ℕ = get_or times slot 0 in
          let n-is : n ≡ get_or times 9 0 = ap (λ (x : ℕ). get_or times x 0) d in
          let was = rw (← n-is) at so_far.rows_are in
          let there : n < length handles = omega (arith, so_far.eight, rw d at below-room) in
          let places : take (n + 1) (set handles n start) ≡ take n handles ++ (start ∷ []) = rw (add-one) (take-suc-set handles n start there) in
          let values : values_of key_handle now_held ≡ values_of key_handle so_far.held ++ (v' ∷ []) = rw d at grown in
          let now-is : get_or times' 9 0 ≡ n + 1 = rw (← d) counted-now in
          rw now-is
          (record {
            inside = rw places (within_more 0 (take n handles) s start was.inside (omega (arith, size, i.within, i.ordered)));
            values = rw (places, values) (rows_more 0 (take n handles) s start ∙ rw (was.values, add-zero, row_is));
          })

      pub noted-handle : Noted k s times' first (set handles (get_or times slot 0) start) end
      noted-handle =
          more first (set handles (get_or times slot 0) start) so_far.nine (length-set handles (get_or times slot 0) _ ∙ so_far.eight)
          (λ j h. firsts-stay j h (λ e. omega arith)) rows_grown

    -- or as the one value of another slot
    pub noted-first : (slot ≡ 9 → ⊥) → Noted k s times' (set first slot (span start end)) handles end
    noted-first d =
        let n : ℕ = get_or times slot 0 in
        let once : 0 ≡ length (values_of (slot_field slot) so_far.held) =
        omega (arith, rw (ne_eqb slot 9 d) at below-room, (so_far.counted slot slot-in).count) in
        let there : slot < length first = omega (arith, so_far.nine, slot-in, d) in
        more (set first slot (span start end)) handles (length-set first slot _ ∙ so_far.nine) so_far.eight
        (λ j h. split (eqb j slot)
        (λ e. rw (eqb-true j slot e, grown, get_or-set_same first slot (span start end) no_span there)
        (record {
          inside = record { ordered = i.ordered; within = i.within };
          value = sym (get_or_at (values_of (slot_field slot) so_far.held) v' [] [] 0 (sym once));
        }))
        (λ e. let f = eqb-false j slot e in rw (get_or-set_other first slot j (span start end) no_span f) (firsts-stay j h f)))
        (rw (stays 9 (lit< tt) (λ e. d (sym e)), get_or-set_other times slot 9 (n + 1) 0 (λ e. d (sym e))) so_far.rows_are)
