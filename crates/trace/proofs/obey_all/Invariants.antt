-- What a line holds has room in its buffer.
use Prim.Native.Nat.{◌≤◌}
use Rattle.trace.proofs.obey_all.Given as goal

abbrev pub invariant-loop : goal.invariant-loop
invariant-loop g l = l.len ≤ 16898
