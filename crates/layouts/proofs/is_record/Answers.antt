-- The four children of a stored record in their order, and the end.
use Rattle.layouts.proofs.PlaceLaws.{from_front, then-field, then_end}
use Rattle.layouts.proofs.is_record.Goals as goal

pub returns : goal.returns
returns c =
    from_front
    (then-field c.after_sized-a1.ensures (then-field c.after_sized-a2.ensures (then-field c.after_name-a3.ensures (then-field c.after_sized-end.ensures then_end))))
