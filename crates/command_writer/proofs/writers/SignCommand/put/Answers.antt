-- The opening says the length of all, and four fields and the key handles follow.
use native.Mathlib.Omega.{arith}
use Rattle.model.specs.Tlv.{sign}
use Rattle.tlv.proofs.WriteLaws.{then_run}
use Rattle.command_writer.proofs.PartLaws.{opened}
use Rattle.command_writer.proofs.writers.SignCommand.put.Goals as goal

pub returns : goal.returns
returns c =
    opened sign _ _ c.put_opening-a1.ensures
    (then_run _ _ c.put_tlv-a2.ensures
    (then_run _ _ c.put-a3.ensures
    (then_run _ _ c.put_tlv-a4.ensures (then_run _ _ c.put-a5.ensures c.put_handles.ensures))))
    (omega (arith, c.requires))
