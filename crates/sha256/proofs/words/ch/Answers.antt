-- The same formula.
use Rattle.std.proofs.Common.{refl}
use Rattle.model.specs.Sha256.{Ch}
use Rattle.sha256.proofs.words.ch.Goals as goal

pub returns : goal.returns
unfolding Ch
returns c = refl
