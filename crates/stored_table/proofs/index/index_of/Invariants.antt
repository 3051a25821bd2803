-- The first n places are those of the records up to the place after n turns; what stands there is a record more, or there is no table.
use Prim.Native.Nat.{◌-◌}
use Rattle.stored_table.proofs.LoadLaws.{Loading}
use Rattle.stored_table.proofs.index.index_of.Given as goal

abbrev pub invariant-loop-at : goal.invariant-loop-at
invariant-loop-at l = Loading l.table l.places l.len l.at

abbrev pub decreases-loop-at : goal.decreases-loop-at
decreases-loop-at l = 32 - l.len
