-- A header that says 5, and the five bytes behind it.
use Rattle.tlv.proofs.WriteLaws.{then_value}
use Rattle.replies.proofs.drafts.put_signed_info.Goals as goal

pub returns : goal.returns
returns c =
    then_value _ c.put_header-a1.ensures c.put_info_start.ensures
