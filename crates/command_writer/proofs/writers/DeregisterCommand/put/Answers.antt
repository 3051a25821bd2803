-- The opening says the length of all, and two fields follow.
use native.Mathlib.Omega.{arith}
use Rattle.model.specs.Tlv.{deregister}
use Rattle.tlv.proofs.WriteLaws.{then_run}
use Rattle.command_writer.proofs.PartLaws.{opened}
use Rattle.command_writer.proofs.writers.DeregisterCommand.put.Goals as goal

pub returns : goal.returns
returns c =
    opened deregister _ _ c.put_opening-a1.ensures (then_run _ _ c.put_tlv-a2.ensures c.put_tlv.ensures) (omega (arith, c.requires))
