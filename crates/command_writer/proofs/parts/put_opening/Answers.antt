-- A header, the index and the AppID, one after the other.
use mathlib.Core.Path.{refl}
use native.Mathlib.Omega.{arith}
use Rattle.tlv.proofs.WriteLaws.{then, then_run, same}
use Rattle.command_writer.proofs.parts.put_opening.Goals as goal

pub returns : goal.returns
returns c =
    same refl (omega arith) (then c.put_header-a1.ensures (then_run _ _ c.put_tlv-a2.ensures c.put.ensures))
