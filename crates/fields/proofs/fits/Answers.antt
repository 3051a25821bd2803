-- The length, by the field's size.
use Rattle.fields.proofs.FieldLaws.{fits-sized}
use Rattle.fields.proofs.fits.Goals as goal

pub returns : goal.returns
returns c =
    let a = c.args in
    fits-sized a.f a.v.now _ c.size_of.ensures c.allows.ensures
