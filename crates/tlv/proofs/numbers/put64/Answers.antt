-- Two writes of four bytes are one of eight.
use mathlib.Core.Path.{refl, sym}
use Rattle.tlv.proofs.WidthLaws.{le-add}
use Rattle.tlv.proofs.WriteLaws.{then, same}
use Rattle.tlv.proofs.numbers.put64.Goals as goal

pub returns : goal.returns
returns c =
    same (sym (le-add 4 4 c.args.n)) refl (then c.put32-mid.ensures c.put32.ensures)
