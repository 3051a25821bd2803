-- Word by word, over the promises of t1 and t2.
use Rattle.model.specs.Sha256.{step}
use Rattle.sha256.proofs.words.step_of.Goals as goal

pub returns : goal.returns
unfolding step
returns c = cc
