-- The byte at hand, behind those before it.
use Rattle.std.proofs.Common.{arith}
use lib.Seq.{paste-zero}
use Rattle.tlv.proofs.WriteLaws.{wrote_paste, paste_step}
use Rattle.tlv.proofs.writer.put_few.Goals as goal

pub loop-i-init : goal.loop-i-init
loop-i-init c = paste-zero _ c.args.at c.args.src.now

pub loop-i-preserved : goal.loop-i-preserved
loop-i-preserved c = paste_step _ _ _ _ (omega arith) c.loop-i-test.true c.loop-i.invariant

pub returns : goal.returns
returns c = wrote_paste _ _ _ c.loop-i.i c.requires (omega arith) (omega arith) c.loop-i.invariant
