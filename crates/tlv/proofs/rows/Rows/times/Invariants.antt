-- After i turns the first i rows are counted.
use Rattle.std.proofs.Common.{◌≡◌, ◌+◌, ◌≤◌, drop}
use Rattle.tlv.specs.Rows.{times}
use Rattle.tlv.specs.RowsOf.{rows_of}
use Rattle.tlv.proofs.rows.Rows.times.Given as goal

abbrev pub invariant-loop-p : goal.invariant-loop-p
invariant-loop-p l = (l.k ≤ l.p-index) × (times l.v (rows_of l.self) ≡ l.k + times l.v (drop l.p-index (rows_of l.self)))
