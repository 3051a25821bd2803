use Rattle.std.proofs.Common.{◌≡◌, ◌+◌, ◌*◌, length, take, refl, arith, length-take-le, rules}
use Rattle.model.specs.Sha256.{steps}
use Rattle.sha256.specs.Views.{Begun}
use Rattle.sha256.proofs.ScheduleLaws.{as_many, begun, four_more}
use Rattle.sha256.proofs.block.rounds.Goals as goal

pub loop-turn-init : goal.loop-turn-init
unfolding steps
loop-turn-init c =
    let h : length c.args.words ≡ 64 = search rules in
    (length-take-le 16 c.args.words (omega (arith, h)), begun c.args.words h, refl)

pub loop-turn-preserved : goal.loop-turn-preserved
loop-turn-preserved c =
    let t = c.loop-turn.turn in
    let x = take 16 c.args.words in
    let more : Begun (4 * t + 20) x c.expand.new.w = c.expand.ensures x c.loop-turn.invariant.0 c.loop-turn.invariant.1 in (
      c.loop-turn.invariant.0,
      as_many _ x (4 * t + 20) (4 * (t + 1) + 16) (omega arith) more,
      four_more _ x (4 * t) (4 * (t + 1)) (4 * t + 20) _ _ _ (omega arith) (omega arith) more c.four-s.ensures c.loop-turn.invariant.2,
    )
