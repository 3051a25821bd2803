-- The two tests of a length.
use mathlib.Core.Path.{refl}
use Rattle.fields.proofs.sizes.allows.Goals as goal

pub returns : goal.returns
returns c = refl
