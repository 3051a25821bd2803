-- At most eight lengths, each 32, that add up to the stretch: a header and 32 bytes for each.
use mathlib.Core.Path.{sym, ◌∙◌}
use native.Mathlib.Omega.{arith}
use Rattle.model.proofs.Basics.{clash}
use Rattle.command_writer.proofs.HandleLaws.{handles-not, handles-take}
use Rattle.command_writer.proofs.lengths.handles_len.Goals as goal

pub returns-then-sizes-gt-MOST_HANDLES : goal.returns-then-sizes-gt-MOST_HANDLES
returns-then-sizes-gt-MOST_HANDLES c = (sym (handles-not _ _ (λ h. absurd (omega (arith, h.0, c.if-sizes-gt-MOST_HANDLES.true)))), omega arith)

pub returns-then-not-are_whole : goal.returns-then-not-are_whole
returns-then-not-are_whole c =
    (sym (handles-not _ _ (λ h. clash (c.are_whole.ensures ∙ h.1) c.if-not-are_whole.true)), omega arith)

pub returns-then-handles-sizes : goal.returns-then-handles-sizes
returns-then-handles-sizes c = (sym (handles-not _ _ (λ h. absurd (omega (arith, h.2, c.if-handles-sizes.true)))), omega arith)

pub returns : goal.returns
returns c =
    let few = c.if-sizes-gt-MOST_HANDLES.false in
    (sym (handles-take _ _ (sym c.are_whole.ensures ∙ c.if-not-are_whole.false) c.if-handles-sizes.false few), omega (arith, few))
