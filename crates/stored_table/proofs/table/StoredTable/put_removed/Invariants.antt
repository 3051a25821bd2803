-- What stays of the first i records is written, but for the run that stands from a place on.
use Rattle.stored_table.proofs.LeftLaws.{Removing}
use Rattle.stored_table.proofs.table.StoredTable.put_removed.Given as goal

abbrev pub invariant-loop-i : goal.invariant-loop-i
invariant-loop-i l = Removing l.mixed l.key l.self-inside.bytes.now l.initial.out l.i l.from l.out l.end
