-- A header that says 7, and the five bytes and the key algorithm behind it.
use Rattle.tlv.proofs.WriteLaws.{then, then_value}
use Rattle.replies.proofs.drafts.put_krd_info.Goals as goal

pub returns : goal.returns
returns c =
    then_value _ c.put_header-a1.ensures (then c.put_info_start-a2.ensures c.put16.ensures)
