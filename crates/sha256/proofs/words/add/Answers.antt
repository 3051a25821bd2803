-- The library's sum is the definition's.
use Rattle.model.specs.Sha256.{◌⊞◌}
use Rattle.sha256.proofs.words.add.Goals as goal

pub returns : goal.returns
unfolding ◌⊞◌
returns c = cc
