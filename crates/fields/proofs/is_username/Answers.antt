-- The length, then the bytes.
use mathlib.Core.Path.{refl}
use Rattle.model.specs.Tlv.{username}
use Rattle.fields.proofs.FieldLaws.{fits_not, fits-rest}
use Rattle.fields.proofs.is_username.Goals as goal

pub returns-then-not-allows : goal.returns-then-not-allows
returns-then-not-allows c = fits_not username c.args.v.now refl refl c.allows.ensures c.if-not-allows.true

pub returns : goal.returns
returns c = fits-rest username c.args.v.now refl refl c.allows.ensures c.if-not-allows.false c.is_utf8.ensures
