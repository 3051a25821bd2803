-- Which kind of `model` each of the code's is.
use Rattle.std.specs.Prelude.{Option, Some, None}
use Rattle.std.proofs.Math.Option as math
use Rattle.std.proofs.Math.Option.{none, some}
use Rattle.model.specs.Tlv as model
use Rattle.params.specs.declared.kinds.Kind.{Kind}
use Rattle.params.specs.declared.kinds.Kind.TheVariants.{GetInfo, Register, Sign, Deregister, OpenSettings}

-- the model's kind
abbrev pub kind_is : Kind → model.Kind
kind_is GetInfo = model.get_info
kind_is Register = model.register
kind_is Sign = model.sign
kind_is Deregister = model.deregister
kind_is OpenSettings = model.open_settings

-- the model's kind, if the outer tag names a command
abbrev pub named_as : Option Kind → math.Option model.Kind
named_as (Some k) = some (kind_is k)
named_as None = none
