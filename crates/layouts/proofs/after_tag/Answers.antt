-- A value that does not run past the end: a TLV with this tag.
use mathlib.Core.Path.{refl, sym}
use native.Mathlib.Omega.{arith}
use Rattle.layouts.proofs.LeafLaws.{tlv_here}
use Rattle.layouts.proofs.after_tag.Goals as goal

pub returns : goal.returns
returns c =
    sym (tlv_here _ _ _ _ c.get16.ensures.value c.if-get16-tag.false c.get16-n.ensures.value (omega arith) refl)
