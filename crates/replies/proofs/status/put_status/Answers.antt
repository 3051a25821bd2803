-- The start of a response with the command's tag is all of it.
use Rattle.params.specs.Kinds.{kind_is}
use Rattle.replies.proofs.WriterLaws.{wrote-status}
use Rattle.replies.proofs.status.put_status.Goals as goal

pub returns : goal.returns
returns c =
    wrote-status (kind_is c.args.kind) c.args.status (rw c.response_tag-tag.ensures at c.put_start.ensures)
