-- How many bytes the fields of a command take, and what the writer says by their sum.
-- Assumes nothing.
use mathlib.Core.Path.{◌≡◌, refl, ◌∙◌}
use mathlib.Core.Bool.{true, false}
use mathlib.Core.List.{List, [], ◌∷◌}
use mathlib.Core.Logic.{inl, inr}
use Prim.Native.Nat.{ℕ, ◌+◌, ◌≤◌, ◌<◌}
use native.Mathlib.Omega.{arith}
use lib.ListN.{length, length-append}
use lib.Dec.{leb, ltb, eqb}
use borrow.Author.Tests.{lt-ltb, le-ltb, ltb-true, ltb-false, leb-true, le-leb, eqb-true, ne_eqb}
use Rattle.model.specs.Lists.{eq_bytes}
use Rattle.model.specs.Tlv.{le, tlv, bytes, max_command, Field, index, attestation_type, key_handle, rule_of, tag_of, fits, Kind, command_tag, Listed, mandatory, optional, fields_of}
use Rattle.model.specs.Commands.{refused, gave}
use Rattle.model.specs.Writer.{Values, one, marked, number, tlvs_for, children_for, command_of, values_ok, each_ok, writable, write_values}
use Rattle.model.proofs.Basics.{split, clash, and_left, and_right, both, up-to, all_got}
use Rattle.model.proofs.Tlvs.{bytes-append, length-one}
use Rattle.model.proofs.LayoutLaws.{fits-most}
use Rattle.model.proofs.WriterLaws as written
use Rattle.model.proofs.WriterLaws.{Breaks, refuses_6, refuses_1}
use Rattle.params.specs.Slots.{command_fields, slot_field}
use Rattle.std.specs.Prelude.{Ok, Err}
use Rattle.fields.specs.declared.refusals.Refusal.{Refusal}
use Rattle.fields.specs.declared.refusals.Refusal.TheVariants.{ShortOutput, BadField}
use Rattle.fields.specs.Refusals as refusals
use Rattle.command_writer.specs.Lengths.{takes, takes_all, too_long, check_len}
use Rattle.command_writer.specs.Parts.{given_tlvs, given_size}

-- ---- one field

module _ (f : Listed) (vs : Values) where
  pub takes-ok : values_ok f vs ≡ true → takes f vs ≡ length (bytes (tlvs_for f vs))
  unfolding takes
  takes-ok e = rw e

  pub takes-not : values_ok f vs ≡ false → takes f vs ≡ too_long
  unfolding takes
  takes-not e = rw e

  -- a field that does not take too much obeys its rule
  pub obeys : takes f vs ≤ max_command → values_ok f vs ≡ true
  obeys h = split (values_ok f vs) (λ e. e) (λ e. let n = takes-not e in absurd (omega (arith, n)))

module _ (f : Field) (v : List ℕ) where
  -- one that must be given
  pub one-fits : fits f v ≡ true → takes (mandatory f) (one v) ≡ 4 + length v
  one-fits e = takes-ok (mandatory f) (one v) (rw e) ∙ length-one _ v

  pub one-not : fits f v ≡ false → takes (mandatory f) (one v) ≡ too_long
  one-not e = takes-not (mandatory f) (one v) (rw e)

  -- one that may be left away
  module _ (mark : ℕ) where
    pub marked-none : mark ≡ 0 → takes (optional f) (marked mark v) ≡ 0
    unfolding marked takes bytes
    marked-none e = rw e

    pub marked-one : (mark ≡ 0 → ⊥) → mark ≡ 1 → takes (optional f) (marked mark v) ≡ takes (mandatory f) (one v)
    unfolding marked takes
    marked-one h e = rw e

    pub marked-not : (mark ≡ 0 → ⊥) → (mark ≡ 1 → ⊥) → takes (optional f) (marked mark v) ≡ too_long
    unfolding marked takes
    marked-not h i = rw (ne_eqb mark 0 h, ne_eqb mark 1 i)

    pub marked-tlvs : tlvs_for (optional f) (marked mark v) ≡ given_tlvs (tag_of f) mark v
    unfolding marked
    marked-tlvs = split (eqb mark 0) (λ e. rw (eqb-true mark 0 e)) (λ e. split (eqb mark 1) (λ h. rw (e, h)) (λ h. rw (e, h)))

    pub marked-size : takes (optional f) (marked mark v) ≤ max_command → takes (optional f) (marked mark v) ≡ given_size mark (length v)
    unfolding bytes
    marked-size h =
        takes-ok _ _ (obeys _ _ h) ∙ rw marked-tlvs (split (eqb mark 1) (λ e. rw e (length-one (tag_of f) v)) (λ e. rw e))

  pub one_size : takes (mandatory f) (one v) ≤ max_command → takes (mandatory f) (one v) ≡ 4 + length v
  one_size h = takes-ok _ _ (obeys _ _ h) ∙ length-one (tag_of f) v

-- a field that may be left away, by its mark
pub ruleset by_mark = (marked-none, marked-one, marked-not)

-- the index, which is 0
pub index-takes : takes (mandatory index) (one (0 ∷ [])) ≡ 5
unfolding takes fits eq_bytes bytes le
index-takes = refl

-- a number of 16 bits
pub number_fits : (n : ℕ) → n < 65536 → takes (mandatory attestation_type) (number n) ≡ 6
unfolding number takes fits bytes le
number_fits n h = rw (lt-ltb n 65536 h)

pub number-not : (n : ℕ) → 65536 ≤ n → takes (mandatory attestation_type) (number n) ≡ too_long
unfolding number takes
number-not n h = rw (le-ltb n 65536 h)

-- any number, by its size
pub ruleset by_number = (number_fits, number-not)

module _ (n : ℕ) (h : takes (mandatory attestation_type) (number n) ≤ max_command) where
  number_small : n < 65536
  number_small = up-to 65536 n (λ m. absurd (omega (arith, number-not n m))) (λ m. m)

  pub number_size : takes (mandatory attestation_type) (number n) ≡ 6
  number_size = number_fits n number_small

  pub number-tlvs : tlvs_for (mandatory attestation_type) (number n) ≡ tlv 0x2807 (le 2 n) ∷ []
  unfolding number
  number-tlvs = rw (lt-ltb n 65536 number_small)

-- no field of a command has more than 8,192 bytes
pub slot_most : (slot : ℕ) (v : List ℕ) → fits (slot_field slot) v ≡ true → length v ≤ 8192
slot_most slot v e =
    let h : leb (rule_of (slot_field slot)).most 8192 ≡ true = all_got (λ f. leb (rule_of f).most 8192) command_fields slot key_handle refl refl in
    omega (arith, leb-true (rule_of (slot_field slot)).most 8192 h, fits-most (slot_field slot) v e)

-- ---- all of them

pub sums : (fs : List Listed) (vss : List Values) → each_ok fs vss ≡ true → takes_all fs vss ≡ length (bytes (children_for fs vss))
unfolding each_ok takes_all children_for bytes
sums [] [] e = refl
sums [] (vs ∷ vss) e = clash e refl
sums (f ∷ fs) [] e = clash e refl
sums (f ∷ fs) (vs ∷ vss) e =
    let ih = sums fs vss (and_right (values_ok f vs) _ e) in
    rw (bytes-append (tlvs_for f vs) (children_for fs vss), length-append (bytes (tlvs_for f vs)) (bytes (children_for fs vss)))
    (omega (arith, ih, takes-ok f vs (and_left (values_ok f vs) _ e)))

-- one that breaks a rule is enough
sums_over : (fs : List Listed) (vss : List Values) → each_ok fs vss ≡ false → max_command < takes_all fs vss
unfolding each_ok takes_all
sums_over [] [] e = clash refl e
sums_over [] (vs ∷ vss) e = omega arith
sums_over (f ∷ fs) [] e = omega arith
sums_over (f ∷ fs) (vs ∷ vss) e =
    split (values_ok f vs)
    (λ h. omega (arith, sums_over fs vss (rw h at e)))
    (λ h. omega (arith, takes-not f vs h))

-- ---- what the writer says of n bytes in all

module _ (k : Kind) (vss : List Values) {n : ℕ} (e : n ≡ 4 + takes_all (fields_of k) vss) where
  command-length : each_ok (fields_of k) vss ≡ true → length (command_of k vss) ≡ n
  unfolding command_of
  command-length h = length-one (command_tag k) _ ∙ omega (arith, sums (fields_of k) vss h)

  -- over 8,192 a field breaks its rule or the command is too long, and else neither
  breaks : max_command < n → Breaks k vss
  breaks m = split (each_ok (fields_of k) vss) (λ h. inr (rw (command-length h) m)) (λ h. inl h)

  module _ (m : n ≤ max_command) where
    each-ok : each_ok (fields_of k) vss ≡ true
    each-ok = split (each_ok (fields_of k) vss) (λ h. h) (λ h. absurd (omega (arith, sums_over (fields_of k) vss h)))

    passes : writable k vss ≡ true
    unfolding writable
    passes = both each-ok (le-leb (length (command_of k vss)) max_command (omega (arith, command-length each-ok)))

  module _ (out : ℕ) where
    pub refuses : (r : Refusal) → Err r ≡ check_len n out → write_values k vss out ≡ refused (refusals.number r)
    unfolding check_len
    refuses r i =
        split (ltb max_command n)
        (λ m. let j = rw m at i in let e : r ≡ BadField = cc in rw e (refuses_6 k vss out (breaks (ltb-true _ _ m))))
        (λ m.
        split (ltb out n)
        (λ o. let j = rw (m, o) at i in let e : r ≡ ShortOutput = cc in let p = ltb-false _ _ m in
        rw e (refuses_1 k vss out (passes p) (rw (command-length (each-ok p)) (ltb-true _ _ o))))
        (λ o. let j = rw (m, o) at i in absurd cc))

    module _ {u : Unit {0}} (i : Ok u ≡ check_len n out) where
      pub accepts : (n ≤ max_command) × (n ≤ out)
      unfolding check_len
      accepts =
          split (ltb max_command n)
          (λ m. let j = rw m at i in absurd cc)
          (λ m.
          split (ltb out n)
          (λ o. let j = rw (m, o) at i in absurd cc)
          (λ o. (ltb-false _ _ m, ltb-false _ _ o)))

      pub writes : write_values k vss out ≡ gave (command_of k vss)
      writes =
          let a = accepts in
          written.writes k vss out (passes a.0) (rw (command-length (each-ok a.0)) a.1)
