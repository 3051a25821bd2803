-- With content its whole hash is written, which has 32 bytes, and else a header alone.
use Rattle.replies.proofs.WriterLaws.{wrote-empty}
use Rattle.replies.proofs.drafts.put_content_hash.Goals as goal

pub returns : goal.returns
returns c =
    rw c.if-content.false (wrote-empty _ c.put_header.ensures)
