-- Two rotations and a shift, joined as the definition joins them.
use Rattle.model.specs.Sha256.{rotr, σ0}
use Rattle.sha256.proofs.words.small0.Goals as goal

pub returns : goal.returns
unfolding rotr σ0
returns c = cc
