-- A header, and the status behind it.
use Rattle.tlv.proofs.WriteLaws.{then}
use Rattle.replies.proofs.status.put_start.Goals as goal

pub returns : goal.returns
returns c =
    then c.put_header-a.ensures c.put_tlv16.ensures
