-- The records before this one are read, and behind them are spare ones.
use Rattle.key_table.proofs.LoadLaws.{Values}
use Rattle.key_table.proofs.forms.values_at.Given as goal

abbrev pub invariant-loop-i : goal.invariant-loop-i
invariant-loop-i l = Values l.table l.t.records l.i
