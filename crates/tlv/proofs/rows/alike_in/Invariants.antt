-- After i turns the first i marks are counted.
use Rattle.std.proofs.Common.{◌≡◌, ◌+◌, ◌≤◌, drop}
use Rattle.tlv.specs.Rows.{alike}
use Rattle.tlv.proofs.rows.alike_in.Given as goal

abbrev pub invariant-loop-m : goal.invariant-loop-m
invariant-loop-m l = (l.k ≤ l.m-index) × (alike l.x l.marks ≡ l.k + alike l.x (drop l.m-index l.marks))
