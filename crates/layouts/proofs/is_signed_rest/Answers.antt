-- Five fields in their order, one of them by whether there is content, and the end.
use Rattle.layouts.proofs.PlaceLaws.{then-field, then_end}
use Rattle.layouts.proofs.is_signed_rest.Goals as goal

pub returns : goal.returns
returns c =
    (then-field c.after_sized-a1.ensures
    (then-field c.after_sized-a2.ensures
    (then-field c.after_hash-a3.ensures (then-field c.after_sized-a4.ensures (then-field c.after_count-end.ensures then_end))))).given
