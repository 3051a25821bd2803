-- The start, whose header says 90, the version and the information of 79 bytes.
use Rattle.replies.proofs.WriterLaws.{wrote-info}
use Rattle.replies.proofs.info.put_info.Goals as goal

pub returns : goal.returns
returns c =
    wrote-info _ _ c.put_start-a1.ensures c.put_tlv-a2.ensures c.put_authenticator_info.ensures
