use mathlib.Core.Path.{refl, sym, ◌∙◌}
use Prim.Native.Nat.{◌-◌}
use native.Mathlib.Omega.{arith}
use lib.ListN.{length}
use Rattle.utf8.specs.Places.{each, plain_at}
use Rattle.utf8.proofs.WindowLaws.{k_more, k_wrong, k_last}
use Rattle.utf8.proofs.is_plain_by.Goals as goal

pub loop-at-init : goal.loop-at-init
unfolding each
loop-at-init c = (omega arith, refl)

pub returns-then-not-is_plain : goal.returns-then-not-is_plain
returns-then-not-is_plain c =
    let s = c.args.s.now in
    let k = c.args.k in
    sym (k_wrong (plain_at s) k c.loop-at.at (length s) (omega arith) (sym c.is_plain.ensures ∙ c.if-not-is_plain.true))

pub loop-at-preserved : goal.loop-at-preserved
loop-at-preserved c =
    let s = c.args.s.now in
    let k = c.args.k in
    (omega arith, k_more (plain_at s) k c.loop-at.at c.loop-at.invariant.1 (sym c.is_plain.ensures ∙ c.if-not-is_plain.false))

pub returns : goal.returns
returns c =
    let s = c.args.s.now in
    let k = c.args.k in
    c.is_plain-2.ensures ∙ k_last (plain_at s) k (length s - k) c.loop-at.at (length s) (omega arith) (omega arith) c.loop-at.invariant.1
