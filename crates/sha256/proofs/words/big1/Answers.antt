-- Three rotations, joined as the definition joins them.
use Rattle.model.specs.Sha256.{rotr, Σ1}
use Rattle.sha256.proofs.words.big1.Goals as goal

pub returns : goal.returns
unfolding rotr Σ1
returns c = cc
