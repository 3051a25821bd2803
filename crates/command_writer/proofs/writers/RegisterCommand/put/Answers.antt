-- The opening says the length of all, and five fields follow.
use native.Mathlib.Omega.{arith}
use Rattle.model.specs.Tlv.{register}
use Rattle.tlv.proofs.WriteLaws.{then_run}
use Rattle.command_writer.proofs.PartLaws.{opened}
use Rattle.command_writer.proofs.writers.RegisterCommand.put.Goals as goal

pub returns : goal.returns
returns c =
    opened register _ _ c.put_opening-a1.ensures
    (then_run _ _ c.put_tlv-a2.ensures
    (then_run _ _ c.put_tlv-a3.ensures
    (then_run _ _ c.put_tlv16-a4.ensures (then_run _ _ c.put_tlv-a5.ensures c.put.ensures))))
    (omega (arith, c.requires))
