-- A mask keeps the lowest byte; after a shift by eight bits, the next.
use mathlib.Core.Path.{sym, ◌∙◌, ap₂}
use mathlib.Core.List.{◌++◌}
use Prim.Native.Nat.{◌/◌}
use mir.Facts.{Fits-mask}
use Rattle.tlv.proofs.WidthLaws.{le_byte, le-add}
use Rattle.tlv.proofs.numbers.split.Goals as goal

pub returns : goal.returns
returns c =
    let n = c.args.n in
    sym (le-add 1 1 n ∙ ap₂ ◌++◌ (le_byte n) (le_byte (n / 256)))

pub overflow_cast-result : goal.overflow_cast-result
overflow_cast-result c = Fits-mask c.args.n 8 tt

pub overflow_cast-result-2 : goal.overflow_cast-result-2
overflow_cast-result-2 c = Fits-mask (c.args.n / 256) 8 tt
