-- Refusal 5, or the signed structure's own bytes.
use mathlib.Core.Path.{ap, ◌∙◌}
use borrow.Author.Rules.{rules}
use Rattle.model.specs.Commands.{gave}
use Rattle.model.proofs.Refusals.{not_read}
use Rattle.response_reader.proofs.SignedLaws.{no_response, response_with}
use Rattle.response_reader.proofs.ReadingLaws.{signed-inside, read_signed}
use Rattle.response_reader.proofs.signed.signed_part.Goals as goal

pub returns-in_default : goal.returns-in_default
returns-in_default c = rw (not_read _ (no_response _ c.shape_of.ensures c.in_default.is)) (search rules)

pub part_of-requires : goal.part_of-requires
part_of-requires c = rw (response_with _ c.shape_of.ensures c.in-Some.is).1 (signed-inside _)

pub returns : goal.returns
returns c =
    let w = response_with _ c.shape_of.ensures c.in-Some.is in
    ap gave c.part_of.ensures ∙ read_signed _ w.0 w.1
