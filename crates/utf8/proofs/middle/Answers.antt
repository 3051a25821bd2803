use mathlib.Core.Path.{refl, sym, ◌∙◌}
use Prim.Native.Nat.{◌-◌}
use native.Mathlib.Omega.{arith}
use lib.ListN.{length}
use Rattle.utf8.specs.Places.{each, stands_at}
use Rattle.utf8.proofs.WindowLaws.{k_more, k_wrong, k_last}
use Rattle.utf8.proofs.middle.Goals as goal

pub loop-at-init : goal.loop-at-init
unfolding each
loop-at-init c = (omega arith, refl)

pub returns-then-not-window : goal.returns-then-not-window
returns-then-not-window c =
    let s = c.args.s.now in
    sym (k_wrong (stands_at s) 16 c.loop-at.at (length s - 3) (omega arith) (sym c.window.ensures ∙ c.if-not-window.true))

pub loop-at-preserved : goal.loop-at-preserved
loop-at-preserved c =
    let s = c.args.s.now in
    (omega arith, k_more (stands_at s) 16 c.loop-at.at c.loop-at.invariant.1 (sym c.window.ensures ∙ c.if-not-window.false))

pub returns : goal.returns
returns c =
    let s = c.args.s.now in
    c.window-2.ensures ∙ k_last (stands_at s) 16 (length s - 19) c.loop-at.at (length s - 3) (omega arith) (omega arith) c.loop-at.invariant.1
