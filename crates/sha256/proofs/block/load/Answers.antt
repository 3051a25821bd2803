use Rattle.std.proofs.Common.{arith, rules}
use Rattle.model.specs.Sha256.{words_of}
use Rattle.sha256.proofs.ScheduleLaws.{load-next}
use Rattle.sha256.proofs.block.load.Goals as goal

pub loop-n-init : goal.loop-n-init
unfolding words_of
loop-n-init c = search rules

pub loop-n-preserved : goal.loop-n-preserved
loop-n-preserved c = (search rules, load-next _ _ _ _ (omega arith) c.loop-n.invariant.1 c.word_at.ensures)
