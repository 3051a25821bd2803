-- Two writes of two bytes are one of four.
use mathlib.Core.Path.{refl, sym}
use Rattle.tlv.proofs.WidthLaws.{le-add}
use Rattle.tlv.proofs.WriteLaws.{then, same}
use Rattle.tlv.proofs.numbers.put32.Goals as goal

pub returns : goal.returns
returns c =
    same (sym (le-add 2 2 c.args.n)) refl (then c.put16-mid.ensures c.put16.ensures)
