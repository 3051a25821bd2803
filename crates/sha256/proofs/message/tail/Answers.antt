-- Whole blocks, then what is left of the last.
use Rattle.std.proofs.Common.{[], ◌∙◌, append-nil}
use Rattle.sha256.proofs.PartLaws.{part-is}
use Rattle.sha256.proofs.message.tail.Goals as goal

pub returns : goal.returns
returns c =
    part-is _ _ _ _ c.args.m.now [] c.blocks-h.ensures c.last.ensures ∙ rw append-nil
