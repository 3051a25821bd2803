-- The schedule, the steps and the sum are the definition's, one after the other.
use Rattle.model.specs.Sha256.{compress, schedule}
use Rattle.sha256.proofs.block.compress.Goals as goal

pub returns : goal.returns
unfolding compress schedule
returns c = cc
