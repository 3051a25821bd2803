-- A signature and a certificate in their attestation tag, and the end.
use Rattle.layouts.proofs.PlaceLaws.{then-field, then-last, then_end}
use Rattle.response_reader.proofs.shapes.is_full.Goals as goal

pub returns : goal.returns
returns c = (then-last c.enter-a1.ensures (then-field c.after_sized-a2.ensures (then-field c.after_sized-end.ensures then_end))).given
