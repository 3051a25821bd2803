-- The table is the definition's.
use Rattle.std.proofs.Common.{refl}
use Rattle.model.specs.Sha256.{K}
use Rattle.sha256.proofs.block.constants.Goals as goal

pub returns : goal.returns
unfolding K
returns c = refl
