-- All from i up to j stay: the first that goes has the same number, counted from j on.
use mathlib.Core.Path.{◌≡◌}
use Prim.Native.Nat.{◌+◌}
use lib.ListN.{drop}
use Rattle.stored_table.specs.Changes.{stay_first}
use Rattle.stored_table.proofs.table.StoredTable.next_going.Given as goal

abbrev pub invariant-loop-j : goal.invariant-loop-j
invariant-loop-j l = l.i + stay_first l.mixed l.key (drop l.i l.self) ≡ l.j + stay_first l.mixed l.key (drop l.j l.self)
