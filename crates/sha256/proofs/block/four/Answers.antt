-- Four steps are four of the definition's.
use Rattle.sha256.proofs.ScheduleLaws.{four_steps}
use Rattle.sha256.proofs.block.four.Goals as goal

pub returns : goal.returns
returns c =
    four_steps _ _ _ _ _ _ _ _ c.constants-k.ensures c.step_of-s1.ensures c.step_of-s2.ensures c.step_of-s3.ensures c.step_of.ensures
