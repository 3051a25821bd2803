-- The records behind the places that are left are not the mixed token's.
use Rattle.stored_table.proofs.NewestLaws.{NoneBehind}
use Rattle.stored_table.proofs.table.StoredTable.is_withdrawable.Given as goal

abbrev pub invariant-loop-place : goal.invariant-loop-place
invariant-loop-place l = NoneBehind l.mixed l.self-inside.bytes.now l.self-inside.places.now l.place-iterator.iter.rest.now
