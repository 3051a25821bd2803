-- Whether each field is given as often as a command asks: slot by slot, and for all that the command lists.
-- Assumes nothing.
use mathlib.Core.Path.{◌≡◌, refl, ap, ◌∙◌}
use mathlib.Core.Bool.{Bool, true, false, cond, ◌&&◌, and-false, and-true}
use mathlib.Core.List.{List, [], ◌∷◌, ◌++◌, map}
use Prim.Native.Nat.{ℕ, zero, suc, ◌≤◌, ◌<◌}
use native.Mathlib.Omega.{arith}
use lib.ListN.{length, get_or}
use lib.Dec.{leb, eqb}
use borrow.Author.Tests.{le-leb, lt-leb, leb-true, eqb-true, ne_eqb}
use Rattle.std.specs.List.{zip, list_all}
use Rattle.model.specs.Lists.{all}
use Rattle.model.specs.Tlv.{Tlv, Kind, get_info, register, sign, deregister, open_settings, Field, key_handle, fields_of, values_of, times_ok}
use Rattle.model.proofs.Basics.{split, clash, and_left, and_right}
use Rattle.params.specs.Slots.{command_fields, slots, slot_field, least_for, most_for, by_slot, enough}
use Rattle.params.proofs.KindLaws.{at_kind}

-- ---- slot by slot

pub enough_all : (least times : List ℕ) → list_all (λ (p : ℕ × ℕ). leb p.0 p.1) (zip least times) ≡ enough least times
unfolding enough
enough_all [] ns = refl
enough_all (m ∷ ms) [] = refl
enough_all (m ∷ ms) (n ∷ ns) = ap (◌&&◌ (leb m n)) (enough_all ms ns)

-- ---- all that a command lists

-- numbers that are those of the fields, place by place
enough-each : (least times : Field → ℕ) (fs : List Field) (ns : List ℕ) → length ns ≡ suc (length fs)
    → ((i : ℕ) → i < length fs → get_or ns i 0 ≡ times (get_or fs i key_handle))
    → enough (map least fs ++ (0 ∷ [])) ns ≡ all (λ f. leb (least f) (times f)) fs
unfolding enough
enough-each least times [] [] e h = refl
enough-each least times [] (n ∷ ns) e h = simp (le-leb 0 n (omega arith))
enough-each least times (f ∷ fs) [] e h = absurd (omega arith)
enough-each least times (f ∷ fs) (n ∷ ns) e h =
    rw (← h 0 (omega arith)) (ap (◌&&◌ (leb (least f) n)) (enough-each least times fs ns (omega arith) (λ i l. h (suc i) (omega arith))))

-- tests that agree at each place
all_agree : {A : Type 0} (p q : A → Bool) (xs : List A) (d : A) → ((i : ℕ) → i < length xs → p (get_or xs i d) ≡ q (get_or xs i d))
    → all p xs ≡ all q xs
all_agree p q [] d h = refl
all_agree p q (x ∷ xs) d h = cc (h 0 (omega arith), all_agree p q xs d (λ i l. h (suc i) (omega arith)))

all-at : {A : Type 0} (p : A → Bool) (xs : List A) (d : A) → all p xs ≡ true → (i : ℕ) → i < length xs → p (get_or xs i d) ≡ true
all-at p [] d e i h = absurd (omega arith)
all-at p (x ∷ xs) d e zero h = and_left (p x) _ e
all-at p (x ∷ xs) d e (suc i) h = all-at p xs d (and_right (p x) _ e) i (omega arith)

-- given as often as it must and may be; of a field that the command does not list nothing is asked here
abbrev allowed : (least most n : ℕ) → Bool
allowed least most n = cond (eqb most 0) true (leb least n && leb n most)

-- the slots keep the order of every list
lists_are : (k : Kind) (ts : List Tlv)
    → all (λ f. allowed (least_for k f) (most_for k f) (length (values_of f ts))) command_fields ≡ all (times_ok ts) (fields_of k)
unfolding least_for most_for
lists_are get_info ts = refl
lists_are register ts = refl
lists_are sign ts = refl
lists_are deregister ts = refl
lists_are open_settings ts = refl

-- no command asks for more than it allows
least-most : (k : Kind) (j : ℕ) → j < slots → least_for k (slot_field j) ≤ most_for k (slot_field j)
unfolding least_for most_for
least-most k j h = leb-true _ _ (at_kind (λ k i. leb (least_for k (slot_field i)) (most_for k (slot_field i))) refl k j h)

-- what is not given too often
few-allowed : (least most n : ℕ) → least ≤ most → n ≤ most → leb least n ≡ allowed least most n
few-allowed least most n h k =
    split (eqb most 0)
    (λ z. let y = eqb-true most 0 z in rw z (le-leb least n (omega arith)))
    (λ z. rw (z, le-leb n most k, and-true))

module _ (k : Kind) (ts : List Tlv) where
  -- where no field is given too often, the command has what it must have exactly if each is given as often as it must be
  pub enough-is : (ns : List ℕ) → length ns ≡ suc slots
      → ((slot : ℕ) → slot < slots → get_or ns slot 0 ≡ length (values_of (slot_field slot) ts))
      → ((slot : ℕ) → slot < slots → length (values_of (slot_field slot) ts) ≤ most_for k (slot_field slot))
      → enough (by_slot (least_for k)) ns ≡ all (times_ok ts) (fields_of k)
  enough-is ns e h few =
      enough-each (least_for k) (λ f. length (values_of f ts)) command_fields ns e h
      ∙ all_agree (λ f. leb (least_for k f) (length (values_of f ts))) (λ f. allowed (least_for k f) (most_for k f) (length (values_of f ts)))
      command_fields key_handle (λ i l. few-allowed _ _ _ (least-most k i l) (few i l))
      ∙ lists_are k ts

  -- one that is given too often
  pub too_many : (slot : ℕ) → slot < slots → (most_for k (slot_field slot) ≡ 0 → ⊥)
      → most_for k (slot_field slot) < length (values_of (slot_field slot) ts) → all (times_ok ts) (fields_of k) ≡ false
  too_many slot h z more =
      split (all (times_ok ts) (fields_of k))
      (λ e. clash
      (all-at (λ f. allowed (least_for k f) (most_for k f) (length (values_of f ts))) command_fields key_handle (lists_are k ts ∙ e) slot h)
      (rw (ne_eqb _ _ z, lt-leb _ _ more, and-false)))
      (λ e. e)
