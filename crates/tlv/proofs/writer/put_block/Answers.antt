-- The number at a place, written, is the bytes there, and the two parts are one.
use mathlib.Core.Path.{refl}
use Prim.Native.Nat.{◌+◌}
use native.Mathlib.Omega.{arith}
use Rattle.tlv.proofs.NumberLaws.{number-written}
use Rattle.tlv.proofs.WriteLaws.{same, then_part}
use Rattle.tlv.proofs.writer.put_block.Goals as goal

pub returns : goal.returns
returns c =
    let known = c.shared_slice_known-1.given in
    let i = c.args.i in
    then_part c.args.src.now i 8 8
    (same (number-written 8 i known (omega arith) c.get64-low.ensures) refl c.put64-mid.ensures)
    (same (number-written 8 (i + 8) known (omega arith) c.get64-high.ensures) refl c.put64.ensures)
