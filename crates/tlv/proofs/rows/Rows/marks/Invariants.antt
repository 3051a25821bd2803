-- After i turns the first i marks are those of the first i rows.
use Rattle.std.proofs.Common.{◌≡◌, map, length, take}
use Rattle.tlv.specs.Rows.{mark}
use Rattle.tlv.specs.RowsOf.{rows_of}
use Rattle.tlv.proofs.rows.Rows.marks.Given as goal

abbrev pub invariant-loop-i : goal.invariant-loop-i
invariant-loop-i l = (length l.marks ≡ 32) × (take l.i l.marks ≡ take l.i (map mark (rows_of l.self)))
