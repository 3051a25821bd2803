-- One store writes the byte.
use Rattle.std.proofs.Common.{arith}
use Rattle.tlv.proofs.WriteLaws.{wrote_byte}
use Rattle.tlv.proofs.numbers.put8.Goals as goal

pub returns : goal.returns
returns c = wrote_byte _ _ _ (omega arith)
