use Rattle.std.proofs.Common.{◌+◌, ◌*◌, arith, rules}
use Rattle.sha256.proofs.ScheduleLaws.{expand_next, no_more}
use Rattle.sha256.proofs.block.expand.Goals as goal

pub returns-then-turn-ge12 : goal.returns-then-turn-ge12
returns-then-turn-ge12 c =
    let t = c.args.turn in
    λ x l b. no_more _ x (4 * t + 16) (4 * t + 20) (search rules) l (omega arith) (omega arith) b

pub loop-n-preserved : goal.loop-n-preserved
loop-n-preserved c =
    let t = c.args.turn in
    let n = c.loop-n.n in
    (search rules, λ x l b. expand_next _ x (4 * t + n) (4 * t + (n + 1) + 16) _ (omega arith) c.loop-n.invariant.0 l (omega arith) (c.loop-n.invariant.1 x l b) (cc))
