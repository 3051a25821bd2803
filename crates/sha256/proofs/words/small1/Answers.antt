-- Two rotations and a shift, joined as the definition joins them.
use Rattle.model.specs.Sha256.{rotr, σ1}
use Rattle.sha256.proofs.words.small1.Goals as goal

pub returns : goal.returns
unfolding rotr σ1
returns c = cc
