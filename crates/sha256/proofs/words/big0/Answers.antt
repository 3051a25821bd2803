-- Three rotations, joined as the definition joins them.
use Rattle.model.specs.Sha256.{rotr, Σ0}
use Rattle.sha256.proofs.words.big0.Goals as goal

pub returns : goal.returns
unfolding rotr Σ0
returns c = cc
