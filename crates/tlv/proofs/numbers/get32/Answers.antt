-- The library's sum of the bytes is the number that they spell.
use Rattle.std.proofs.Common.{arith}
use Rattle.tlv.proofs.NumberLaws.{number_read}
use Rattle.tlv.proofs.numbers.get32.Goals as goal

pub returns : goal.returns
returns c = number_read 3 c.bytes_at.ensures c.from_le_bytes.ensures (omega arith)
