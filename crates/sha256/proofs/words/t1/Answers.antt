-- Sums over the promises of the functions.
use Rattle.model.specs.Sha256.{T1}
use Rattle.sha256.proofs.words.t1.Goals as goal

pub returns : goal.returns
unfolding T1
returns c = cc
