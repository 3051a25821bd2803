-- The TLV with this tag ends with the stretch or not.
use mathlib.Core.Path.{sym, ◌∙◌}
use native.Mathlib.Omega.{arith}
use borrow.Author.Tests.{eq-eqb, ne_eqb}
use Rattle.layouts.proofs.PlaceLaws.{tlv-before}
use Rattle.layouts.proofs.LeafLaws.{in_last}
use Rattle.layouts.proofs.enter.Goals as goal

pub returns-then-end-s : goal.returns-then-end-s
returns-then-end-s c = sym (in_last _ _ _ c.after_tag-end.ensures ∙ simp (ne_eqb _ _ c.if-end-s.true))

pub overflow_add-result-2 : goal.overflow_add-result-2
overflow_add-result-2 c = omega (arith, (tlv-before (omega arith) _ _ c.after_tag-end.ensures).0)

pub returns : goal.returns
returns c = sym (in_last _ _ _ c.after_tag-end.ensures ∙ simp (eq-eqb _ _ c.if-end-s.false))
