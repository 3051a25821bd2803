-- Where all tests pass, a field of this size stands there.
use mathlib.Core.Path.{sym}
use native.Mathlib.Omega.{arith}
use Rattle.layouts.proofs.LeafLaws.{sized_here}
use Rattle.layouts.proofs.after_sized.Goals as goal

pub returns : goal.returns
returns c =
    sym
    (sized_here _ _ _ _ _ c.get16.ensures.value c.if-get16-size.false c.get16-len.ensures.value c.if-len-size.false c.if-size-len.false
    (omega arith))
