-- A header that says 75, and seven fields of together 75 bytes.
use Rattle.replies.proofs.WriterLaws.{wrote-inside}
use Rattle.replies.proofs.info.put_authenticator_info.Goals as goal
use Rattle.replies.proofs.info.put_authenticator_info.Goals.{After-out-5-1, After-put_tlv-arg-10-1, After-put_tlv-arg-6-1}

pub returns : goal.returns
returns c =
    wrote-inside _ _ c.requires.0 c.requires.1 c.put_header-a1.ensures c.put_tlv-a2.ensures c.put_tlv-a3.ensures
    c.put_tlv-a4.ensures c.put_tlv-a5.ensures c.put_tlv-a6.ensures c.put_tlv16-a7.ensures c.put_tlv16.ensures
