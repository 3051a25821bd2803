-- Word by word.
use Rattle.model.specs.Sha256.{plus}
use Rattle.sha256.proofs.words.sum.Goals as goal

pub returns : goal.returns
unfolding plus
returns c = cc
