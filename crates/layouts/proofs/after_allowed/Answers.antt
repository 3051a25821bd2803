-- A field of this size, if its value passes the test.
use mathlib.Core.Path.{sym, refl, ◌∙◌}
use mathlib.Core.Bool.{true, false}
use native.Mathlib.Omega.{arith}
use Rattle.std.proofs.Common.{rules}
use Rattle.std.proofs.lemmas.Fn.{says_at}
use Rattle.layouts.proofs.LeafLaws.{rule-nowhere, rule_asked, sized-stands, sized-value}
use Rattle.layouts.proofs.after_allowed.Goals as goal
use Rattle.layouts.proofs.after_allowed.Goals.{else-end-s-via-then-end-s+else-allowed, else-end-s-via-else-end-s}

pub overflow_add-at : goal.overflow_add-at
overflow_add-at g c = omega (arith, sized-stands _ _ _ _ _ c.after_sized-end.ensures c.if-end-s.true)

pub slice_bounds-allowed-count : goal.slice_bounds-allowed-count
slice_bounds-allowed-count g c = omega (arith, sized-stands _ _ _ _ _ c.after_sized-end.ensures c.if-end-s.true)

pub slice_bounds-allowed-start : goal.slice_bounds-allowed-start
slice_bounds-allowed-start g c = omega (arith, sized-stands _ _ _ _ _ c.after_sized-end.ensures c.if-end-s.true)

pub allowed-requires : goal.allowed-requires
allowed-requires g c =
    let i = sized-stands _ _ _ _ _ c.after_sized-end.ensures c.if-end-s.true in
    search rules

pub returns-then-allowed : goal.returns-then-allowed
returns-then-allowed g c test h =
    let e = c.after_sized-end.ensures in
    let i = sized-value _ _ _ _ _ e c.if-end-s.true in
    sym
    (rule_asked _ _ _ test _ _ e true c.if-end-s.true
    (sym (h _ _ i.0 i.1 (says_at g.F.Fn c.allowed.ensures refl)) ∙ c.if-allowed.true))

pub returns : goal.returns
returns g c test h =
    let e = c.after_sized-end.ensures in
    elim c.else-end-s.branch [
      | else-end-s-via-then-end-s+else-allowed w ↦
          let i = sized-value _ _ _ _ _ e w.if-end-s.true in
          sym
          (rule_asked _ _ _ test _ _ e false w.if-end-s.true
          (sym (h _ _ i.0 i.1 (says_at g.F.Fn w.allowed.ensures refl)) ∙ w.if-allowed.false))
      | else-end-s-via-else-end-s w ↦ sym (rule-nowhere _ _ _ test _ _ e w.if-end-s.false)
    ]
