-- The two lowest bytes, into the part of the stretch that they fill.
use Rattle.std.proofs.Common.{◌∙◌, arith}
use Rattle.model.proofs.Numbers.{length-le}
use Rattle.tlv.proofs.WriteLaws.{wrote_part}
use Rattle.tlv.proofs.numbers.put16.Goals as goal

pub returns : goal.returns
returns c =
    let a = c.args in
    wrote_part a.out.now a.at 2 (omega arith) (length-le 2 a.n) (c.copy_from_slice.ensures.after ∙ c.split.ensures)
