-- KRD, then what goes with one of the two attestation types.
use mathlib.Core.Path.{refl, sym, ◌∙◌}
use Rattle.layouts.proofs.PlaceLaws.{then-group, from_front}
use Rattle.response_reader.proofs.ShapeLaws.{then_assertion, either_is}
use Rattle.response_reader.proofs.shapes.is_registered.Goals as goal

pub returns-then-is_full : goal.returns-then-is_full
returns-then-is_full c = c.if-is_full.true ∙ either_is (sym c.if-is_full.true ∙ from_front (then_assertion c.requires c.assertion_in-a1.ensures (then-group c.after_krd-a2.ensures (record { given = c.is_full.ensures })))) refl

pub returns-else-is_full : goal.returns-else-is_full
returns-else-is_full c = either_is (sym c.if-is_full.false ∙ from_front (then_assertion c.requires c.assertion_in-a1.ensures (then-group c.after_krd-a2.ensures (record { given = c.is_full.ensures })))) (from_front (then_assertion c.requires c.assertion_in-a1.ensures (then-group c.after_krd-a2.ensures (record { given = c.is_surrogate.ensures }))))
