-- AAID and ASSERTION_INFO, then what the mode says.
use mathlib.Core.Path.{refl, sym, ◌∙◌}
use native.Mathlib.Omega.{arith}
use Rattle.layouts.proofs.LeafLaws.{sized-stands, signed-mode}
use Rattle.layouts.proofs.is_signed_data.Goals as goal

pub overflow_add-mode : goal.overflow_add-mode
overflow_add-mode c = omega (arith, sized-stands _ _ _ _ _ c.after_sized-a2.ensures c.if-s-a2.false)

pub bounds-s-a1 : goal.bounds-s-a1
bounds-s-a1 c = omega (arith, sized-stands _ _ _ _ _ c.after_sized-a2.ensures c.if-s-a2.false)

pub returns : goal.returns
returns c =
    c.is_signed_rest.ensures
    ∙ sym
    (signed-mode _ c.after_sized-a1.ensures c.after_sized-a2.ensures c.if-s-a2.false refl c.if-mode-lt1.false
    c.if-mode-gt2.false)
