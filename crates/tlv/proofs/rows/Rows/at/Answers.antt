-- The 32 bytes from its place on.
use Rattle.std.proofs.Common.{◌≡◌, ◌+◌, ◌-◌, slice_index, arith}
use Rattle.tlv.proofs.rows.Rows.at.Goals as goal

pub returns : goal.returns
returns c =
    let r = c.args.self.now in
    let p = slice_index r.places.now c.args.i + r.off in
    let e : p + 32 - p ≡ 32 = omega arith in
    rw e
