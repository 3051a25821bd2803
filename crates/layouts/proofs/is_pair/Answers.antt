-- A name and a KeyID, and the end.
use Rattle.layouts.proofs.PlaceLaws.{from_front, then-field, then_end}
use Rattle.layouts.proofs.is_pair.Goals as goal

pub returns : goal.returns
returns c = from_front (then-field c.after_name-a.ensures (then-field c.after_sized-end.ensures then_end))
