use mathlib.Core.Path.{◌∙◌}
use Rattle.tlv.proofs.SameLaws.{pointwise_same}
use Rattle.tlv.proofs.bytes.same.Goals as goal

pub returns : goal.returns
returns c = c.eq.ensures ∙ pointwise_same _ _
