-- Six fields in their order, and the end.
use Rattle.layouts.proofs.PlaceLaws.{from_front, then-field, then_end}
use Rattle.layouts.proofs.is_krd.Goals as goal

pub returns : goal.returns
returns c = from_front (then-field c.after_sized-a1.ensures (then-field c.after_krd_info-a2.ensures (then-field c.after_sized-a3.ensures (then-field c.after_sized-a4.ensures (then-field c.after_no_counts-a5.ensures (then-field c.after_sized-end.ensures then_end))))))
