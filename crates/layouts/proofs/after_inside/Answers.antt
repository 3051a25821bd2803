-- A TLV with this tag, if its value passes the test.
use mathlib.Core.Path.{sym, refl, ◌∙◌}
use mathlib.Core.Bool.{true, false}
use native.Mathlib.Omega.{arith}
use Rattle.std.proofs.lemmas.Fn.{says_at}
use Rattle.layouts.proofs.PlaceLaws.{tlv-before}
use Rattle.layouts.proofs.LeafLaws.{more-nowhere, more_asked}
use Rattle.layouts.proofs.after_inside.Goals as goal
use Rattle.layouts.proofs.after_inside.Goals.{else-end-s-via-then-end-s+else-inside, else-end-s-via-else-end-s}

pub overflow_add-at : goal.overflow_add-at
overflow_add-at g c = omega (arith, (tlv-before c.if-end-s.true _ _ c.after_tag-end.ensures).0)

pub slice_bounds-inside-count : goal.slice_bounds-inside-count
slice_bounds-inside-count g c = omega (arith, (tlv-before c.if-end-s.true _ _ c.after_tag-end.ensures).0)

pub slice_bounds-inside-start : goal.slice_bounds-inside-start
slice_bounds-inside-start g c = omega (arith, (tlv-before c.if-end-s.true _ _ c.after_tag-end.ensures).0)

pub returns-then-inside : goal.returns-then-inside
returns-then-inside g c test h =
    sym
    (more_asked _ _ test _ _ c.after_tag-end.ensures true c.if-end-s.true
    (sym (h _ _ (says_at g.F.Fn c.inside.ensures refl)) ∙ c.if-inside.true))

pub returns : goal.returns
returns g c test h =
    let e = c.after_tag-end.ensures in
    elim c.else-end-s.branch [
      | else-end-s-via-then-end-s+else-inside w ↦
          sym
          (more_asked _ _ test _ _ e false w.if-end-s.true
          (sym (h _ _ (says_at g.F.Fn w.inside.ensures refl)) ∙ w.if-inside.false))
      | else-end-s-via-else-end-s w ↦ sym (more-nowhere _ _ test _ _ e (λ v k. refl) w.if-end-s.false)
    ]
