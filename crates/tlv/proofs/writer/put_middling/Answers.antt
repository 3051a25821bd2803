-- The copy of the first 8 bytes, and over its end that of the last 8.
use mathlib.Core.Path.{refl}
use Prim.Native.Nat.{◌+◌, ◌-◌}
use lib.ListN.{length}
use native.Mathlib.Omega.{arith}
use lib.Seq.{paste-zero}
use Rattle.tlv.proofs.NumberLaws.{number-written}
use Rattle.tlv.proofs.WriteLaws.{same, paste_over, wrote_paste}
use Rattle.tlv.proofs.writer.put_middling.Goals as goal

pub returns : goal.returns
returns c =
    let known = c.shared_slice_known-1.given in
    let at = c.args.at in
    let out = c.args.out.now in
    let src = c.args.src.now in
    let last = length src - 8 in
    let p = same (number-written 8 0 known (omega arith) c.get64-low.ensures) refl c.put64.ensures in
    let q = same (number-written 8 last known (omega arith) c.get64-high.ensures) refl c.put64-2.ensures in
    let first-there = paste_over out src at 0 0 8 (omega arith) (omega arith) (omega arith) (omega arith) (omega arith) (paste-zero out at src) p in
    let All-there = paste_over out src at 8 last 8 refl (omega arith) (omega arith) (omega arith) (omega arith) first-there q in
    wrote_paste out src at (last + 8) (omega arith) (omega (arith, q.next)) (omega arith) All-there
