-- Which field of `model` each of the code's is, and that a size of the code is its rule's.
use Rattle.std.specs.Prelude.{◌≡◌}
use Rattle.model.specs.Tlv as model
use Rattle.model.specs.Tlv.{rule_of}
use Rattle.fields.specs.declared.sizes.Size.{Size}
use Rattle.fields.specs.declared.Field.{Field}
use Rattle.fields.specs.declared.Field.TheVariants.{KeyId, MixedToken, Aaid, Metadata, PublicKey, Nonce, Signature, Certificate}

-- the model's field
abbrev pub named : Field → model.Field
named KeyId = model.key_id
named MixedToken = model.mixed_token
named Aaid = model.aaid
named Metadata = model.metadata
named PublicKey = model.public_key
named Nonce = model.nonce
named Signature = model.signature
named Certificate = model.certificate

-- a size has the lengths of the field's rule
pub record SizeIs (f : Field) (r : Size) : Type 0 where
  pub least-is : r.least ≡ (rule_of (named f)).least
  pub most-is : r.most ≡ (rule_of (named f)).most
