use mathlib.Core.Path.{refl}
use Rattle.utf8.specs.Places.{each}
use Rattle.utf8.proofs.CodeLaws.{next_place}
use Rattle.utf8.proofs.window.Goals as goal

pub loop-i-init : goal.loop-i-init
unfolding each
loop-i-init c = refl

pub loop-i-preserved : goal.loop-i-preserved
loop-i-preserved c = next_place c.args.s.now c.args.at c.loop-i.i c.loop-i.invariant c.misplaced-wrong.ensures
