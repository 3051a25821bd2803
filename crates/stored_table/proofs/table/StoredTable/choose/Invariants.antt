-- The first len numbers are those of the records chosen before record i; no more than eight are, so there is room for each.
use Rattle.tlv.specs.Rows.{rows}
use Rattle.stored_table.specs.Stored.{table_in}
use Rattle.stored_table.proofs.LookupLaws.{Choosing}
use Rattle.stored_table.proofs.table.StoredTable.choose.Given as goal

abbrev pub invariant-loop-i : goal.invariant-loop-i
invariant-loop-i l = Choosing l.mixed (rows 0 l.handles l.s) (table_in l.self-inside.bytes.now) l.chosen l.len l.i
