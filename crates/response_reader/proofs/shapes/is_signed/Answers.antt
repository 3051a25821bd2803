-- The assertion holds SIGNED_DATA with content or without, and a signature.
use mathlib.Core.Path.{refl, ◌∙◌}
use Rattle.layouts.proofs.PlaceLaws.{then-field, then_signed, then_lost, then_end, from_front}
use Rattle.response_reader.proofs.ShapeLaws.{then_assertion, either_is}
use Rattle.response_reader.proofs.shapes.is_signed.Goals as goal

pub returns-then-s-a1 : goal.returns-then-s-a1
returns-then-s-a1 c =
    let o = c.requires in
    let e = c.assertion_in-a1.ensures in
    let lost = c.if-s-a1.true in
    either_is (from_front (then_assertion o e (then_lost lost))) (from_front (then_assertion o e (then_lost lost)))

pub returns : goal.returns
returns c =
    let o = c.requires in
    let e = c.assertion_in-a1.ensures in
    then_signed _ c.after_signed-a2.ensures (then-field c.after_sized-end.ensures then_end)
    ∙ either_is (from_front (then_assertion o e (record { given = refl }))) (from_front (then_assertion o e (record { given = refl })))
