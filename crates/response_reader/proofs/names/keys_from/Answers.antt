use native.Mathlib.Omega.{arith}
use Rattle.response_reader.proofs.NameLaws.{pair_is, keyed_none, keyed_next, keyed_all, keyed_bad, keyed_eight}
use Rattle.response_reader.proofs.names.keys_from.Goals as goal

pub loop-len-init : goal.loop-len-init
loop-len-init c = keyed_none _ _ _ c.told-places

pub returns-then-place-s : goal.returns-then-place-s
returns-then-place-s c = keyed_all c.loop-len.invariant c.if-place-s.true

pub returns-then-s-end : goal.returns-then-s-end
returns-then-s-end c = keyed_bad c.loop-len.invariant c.if-place-s.false c.after_pair-end.ensures c.if-s-end.true

pub overflow_sub-places : goal.overflow_sub-places
overflow_sub-places c = omega (arith, pair_is c.after_pair-end.ensures c.if-s-end.false)

pub loop-len-preserved : goal.loop-len-preserved
loop-len-preserved c =
    keyed_next c.loop-len.invariant c.if-place-s.false c.after_pair-end.ensures c.if-s-end.false
    c.loop-len-test.true

pub returns : goal.returns
returns c = keyed_eight c.loop-len.invariant (omega arith) c.then_some.ensures
