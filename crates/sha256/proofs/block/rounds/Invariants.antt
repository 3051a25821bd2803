-- Four words and four steps a turn: what stands after n turns is what 4 * n steps give.
use Rattle.std.proofs.Common.{◌≡◌, ◌+◌, ◌*◌, length, take}
use Rattle.model.specs.Sha256.{extend, steps}
use Rattle.sha256.specs.Views.{view, Begun}
use Rattle.sha256.proofs.block.rounds.Given as goal

abbrev pub invariant-loop-turn : goal.invariant-loop-turn
invariant-loop-turn l =
    (length (take 16 l.initial.w) ≡ 16) × Begun (4 * l.turn + 16) (take 16 l.initial.w) l.w
    × (view l.s ≡ steps (4 * l.turn) (extend 48 (take 16 l.initial.w)) (view l.initial.s))
