-- Nine fields and a group, in their order, and the end.
use Rattle.model.specs.Tlv.{le}
use Rattle.layouts.proofs.PlaceLaws.{from_front, then-field, then-last, then_end}
use Rattle.response_reader.proofs.shapes.is_info.Goals as goal

pub returns : goal.returns
unfolding le
returns c =
    from_front
    (then-last c.requires.inside
    (then-field c.requires.past
    (then-field c.after_fixed-a3.ensures
    (then-last c.enter-a4.ensures
    (then-field c.after_fixed-a5.ensures
    (then-field c.after_sized-a6.ensures
    (then-field c.after_sized-a7.ensures
    (then-field c.after_fixed-a8.ensures
    (then-field c.after_fixed-a9.ensures
    (then-field c.after_fixed-a10.ensures
    (then-field c.after_fixed-end.ensures
    then_end)))))))))))
