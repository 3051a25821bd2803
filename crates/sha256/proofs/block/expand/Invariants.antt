-- Word after word: what began as the schedule goes on as the schedule.
use Rattle.std.proofs.Common.{◌≡◌, ℕ, ◌+◌, List, length}
use Rattle.sha256.specs.Views.{Begun}
use Rattle.sha256.proofs.block.expand.Given as goal

abbrev pub invariant-loop-n : goal.invariant-loop-n
invariant-loop-n l =
    (length l.w ≡ 64) × ((x : List ℕ) → length x ≡ 16 → Begun (l.from + 16) x l.initial.w → Begun (l.from + l.n + 16) x l.w)
