-- Two bytes, one and two, one after the other.
use Rattle.tlv.proofs.WriteLaws.{then}
use Rattle.replies.proofs.drafts.put_info_start.Goals as goal

pub returns : goal.returns
returns c =
    then c.put16-a1.ensures (then c.put8-a2.ensures c.put16.ensures)
