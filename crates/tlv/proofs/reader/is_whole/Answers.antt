-- The length in the header is that of the rest.
use native.Mathlib.Omega.{arith}
use mathlib.Core.Path.{sym}
use Rattle.tlv.proofs.HeadLaws.{fills-short, fills-is}
use Rattle.tlv.proofs.reader.is_whole.Goals as goal

pub returns-then-s-lt4 : goal.returns-then-s-lt4
returns-then-s-lt4 c = sym (fills-short c.args.s.now c.if-s-lt4.true)

pub returns : goal.returns
returns c = fills-is _ _ (omega arith) c.get16-len.ensures.value
