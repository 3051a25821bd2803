-- Zeros throughout.
use mathlib.Core.Path.{refl}
use Rattle.tlv.specs.Firsts.{firsts}
use Rattle.key_table.specs.Views.{spare_record}
use Rattle.key_table.proofs.records.spare.Goals as goal

pub returns : goal.returns
unfolding firsts spare_record
returns c = refl
