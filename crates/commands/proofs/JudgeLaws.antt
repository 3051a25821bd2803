-- Register's attestation type and last checks, and whether a field's value is empty.
-- Assumes nothing.
use mathlib.Core.Path.{◌≡◌, refl, sym, ap, ◌∙◌}
use Prim.Native.Nat.{ℕ, ◌+◌, ◌-◌, ◌≤◌}
use mathlib.Core.Bool.{Bool, true, false, cond, ◌||◌}
use mathlib.Core.List.{List}
use native.Mathlib.Omega.{arith}
use lib.Dec.{eqb, leb}
use lib.ListN.{length}
use borrow.Author.Tests.{eq-eqb}
use Rattle.model.specs.Lists.{empty}
use Rattle.model.specs.Tlv.{num, Kind, Field, attestation_type, full, surrogate, register, broken, field_in}
use Rattle.model.specs.Records.{Table, max_own}
use Rattle.model.specs.Commands.{Lent, judge, register_checks}
use Rattle.model.proofs.Fields.{field_fits}
use Rattle.model.proofs.LayoutLaws.{fits-least, fits-most}
use Rattle.tlv.specs.Numbers.{NumberAt}
use Rattle.tlv.specs.declared.heads.Span.{Span}
use Rattle.tlv.proofs.NumberLaws.{num-between}
use Rattle.tlv.proofs.HeadLaws.{length_part, part-empty}
use Rattle.params.specs.Parse.{Placed, ParamsPlaced, ParamsRead}
use Rattle.params.specs.declared.parse.Params.{Params}

-- ---- a command whose parameters say that it breaks no rule

module _ {k : Kind} {s : List ℕ} {p : Params} (r : ParamsRead k s p) (e : p.broken ≡ false) where
  pub breaks_none : broken k s ≡ false
  breaks_none = sym r.broken-is ∙ e

  -- and each field stands where they say
  pub placed : ParamsPlaced s p
  placed = r.unless_broken breaks_none

-- ---- Register: the attestation type

module _ (s : List ℕ) (p : Span) (b : broken register s ≡ false) (h : Placed s attestation_type p) where
  -- its value has two bytes
  type_width : p.end - p.start ≡ 2
  type_width =
      let v = field_in attestation_type s in
      let fit = field_fits register s attestation_type b refl in
      let n : length v ≡ p.end - p.start = ap length (sym h.value) ∙ length_part h.inside in
      omega (arith, n, fits-least attestation_type v fit, fits-most attestation_type v fit)

  pub type-inside : p.start + 2 ≤ length s
  type-inside = omega (arith, type_width, h.inside)

  -- the number there
  pub type-is : (r : ℕ) → NumberAt 2 s p.start r → r ≡ num (field_in attestation_type s)
  type-is r n = sym (ap num (sym h.value) ∙ num-between s p.start p.end ∙ rw type_width (sym n.value))

  -- what a test of that number says of the attestation type
  pub type_told : (r : ℕ) → NumberAt 2 s p.start r → {t : Bool} → t ≡ (eqb r full || eqb r surrogate)
      → (eqb (num (field_in attestation_type s)) full || eqb (num (field_in attestation_type s)) surrogate) ≡ t
  type_told r n e = rw (← type-is r n) (sym e)

-- the first three checks pass, where v is the verdict
pub record Admitted (s : List ℕ) (v : ℕ) : Type 0 where
  pub unbroken : broken register s ≡ false
  pub user : v ≡ 0
  pub supported : (eqb (num (field_in attestation_type s)) full || eqb (num (field_in attestation_type s)) surrogate) ≡ true

-- then two are left
pub admitted : {A : Type 0} (says : ℕ → A) (passed : A) (s : List ℕ) (l : Lent) (mine : Table) (taken filled : Bool)
    → Admitted s l.verdict → judge (register_checks s l mine taken filled) says passed
    ≡ cond taken (says 0x01) (cond (leb max_own (length mine) || filled) (says 0x0F) passed)
unfolding judge register_checks
admitted says passed s l mine taken filled h = simp (h.unbroken, eq-eqb _ _ h.user, h.supported)

-- ---- an empty KeyID, and empty transaction content

-- a value is empty exactly if its part ends where it starts
pub placed_empty : (s : List ℕ) (f : Field) (p : Span) → Placed s f p → empty (field_in f s) ≡ eqb p.start p.end
placed_empty s f p h = ap empty (sym h.value) ∙ part-empty h.inside
