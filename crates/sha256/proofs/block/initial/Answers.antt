-- The words are the definition's.
use Rattle.std.proofs.Common.{refl}
use Rattle.model.specs.Sha256.{H0}
use Rattle.sha256.proofs.block.initial.Goals as goal

pub returns : goal.returns
unfolding H0
returns c = refl
