-- After i turns each of the first i rows stands at most so many times from its own place on.
use Rattle.std.proofs.Common.{◌≡◌, drop}
use Rattle.tlv.specs.Rows.{each_few}
use Rattle.tlv.specs.RowsOf.{rows_of}
use Rattle.tlv.proofs.RowLaws.{few_from}
use Rattle.tlv.proofs.rows.Rows.few_by.Given as goal

abbrev pub invariant-loop-i : goal.invariant-loop-i
invariant-loop-i g l = each_few l.most (rows_of l.self) ≡ few_from l.most (drop l.i (rows_of l.self))
