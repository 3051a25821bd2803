-- The end, too few bytes for a header, a value that runs past the end, or a TLV.
use native.Mathlib.Omega.{arith}
use mathlib.Core.Path.{sym}
use Rattle.tlv.proofs.HeadLaws.{head_end, head_bad, head_tlv}
use Rattle.tlv.proofs.heads.head_at.Goals as goal

pub returns-then-s-at : goal.returns-then-s-at
returns-then-s-at c = sym (head_end _ _ c.if-s-at.true)

pub returns-then-s-at-lt4 : goal.returns-then-s-at-lt4
returns-then-s-at-lt4 c = sym (head_bad _ _ (omega arith) (omega arith))

pub returns-then-s-at-2 : goal.returns-then-s-at-2
returns-then-s-at-2 c = sym (head_bad _ _ (omega arith) (omega arith))

pub returns : goal.returns
returns c =
    sym
    (head_tlv _ _ _ _ c.get16-tag.ensures.value c.get16-len.ensures.value (omega arith))
