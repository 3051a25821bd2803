-- A signature in its attestation tag, and the end.
use Rattle.layouts.proofs.PlaceLaws.{then-field, then-last, then_end}
use Rattle.response_reader.proofs.shapes.is_surrogate.Goals as goal

pub returns : goal.returns
returns c = (then-last c.enter-a1.ensures (then-field c.after_sized-end.ensures then_end)).given
