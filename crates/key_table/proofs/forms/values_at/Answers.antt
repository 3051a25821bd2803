use native.Mathlib.Omega.{arith}
use Rattle.key_table.proofs.LoadLaws.{values_none, values-more, values-all}
use Rattle.key_table.proofs.forms.values_at.Goals as goal

pub loop-i-init : goal.loop-i-init
loop-i-init c = values_none _ c.no_table-t.ensures

pub loop-i-preserved : goal.loop-i-preserved
loop-i-preserved c = values-more _ (omega (arith, c.len-len.ensures)) (omega (arith, c.len-len.ensures)) c.loop-i.invariant c.value_at.ensures

pub returns : goal.returns
returns c = values-all _ c.loop-i.invariant (omega arith) c.len-len.ensures.0
