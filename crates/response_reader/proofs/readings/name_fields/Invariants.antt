-- After each turn the rows are those of the pairs up to the place reached.
use Prim.Native.Nat.{◌-◌}
use lib.ListN.{length}
use Rattle.response_reader.specs.Readings.{held, Same}
use Rattle.response_reader.proofs.NamingLaws.{Naming}
use Rattle.response_reader.proofs.readings.name_fields.Given as goal

abbrev pub invariant-loop-at : goal.invariant-loop-at
invariant-loop-at l = record { same : Same l.initial.columns l.columns; naming : Naming l.s (held l.columns) l.at }

abbrev pub decreases-loop-at : goal.decreases-loop-at
decreases-loop-at l = length l.s - l.at
