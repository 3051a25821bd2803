-- After each turn the children up to the place reached pass, in any command of this kind with this run, none is given too often, and each is noted.
use mathlib.Core.Path.{◌≡◌}
use Prim.Native.Nat.{◌-◌}
use lib.ListN.{length}
use Rattle.params.specs.Kinds.{kind_is}
use Rattle.params.proofs.SlotLaws.{NotedBy}
use Rattle.params.proofs.parse.read_children.Given as goal

abbrev pub invariant-loop-times : goal.invariant-loop-times
invariant-loop-times l = (length l.handles ≡ 8) × NotedBy (kind_is l.fn.kind) l.run l.times l.first l.handles l.at

abbrev pub decreases-loop-times : goal.decreases-loop-times
decreases-loop-times l = length l.run - l.at
