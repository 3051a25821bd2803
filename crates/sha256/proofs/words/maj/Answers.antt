-- The same formula.
use Rattle.std.proofs.Common.{refl}
use Rattle.model.specs.Sha256.{Maj}
use Rattle.sha256.proofs.words.maj.Goals as goal

pub returns : goal.returns
unfolding Maj
returns c = refl
