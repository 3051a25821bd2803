-- A sum over the promises of the functions.
use Rattle.model.specs.Sha256.{T2}
use Rattle.sha256.proofs.words.t2.Goals as goal

pub returns : goal.returns
unfolding T2
returns c = cc
