-- The header says four bytes less than len, and the six fields take as many.
use Rattle.replies.proofs.WriterLaws.{wrote-krd}
use Rattle.replies.proofs.drafts.put_krd.Goals as goal
use Rattle.replies.proofs.drafts.put_krd.Goals.{After-out-4-1}

pub returns : goal.returns
returns c =
    wrote-krd _ c.args.numbers _ _ _ c.requires.aaid_len.0 c.requires.aaid_len.2 c.requires.len_value.0 c.put_header-a1.ensures c.put_tlv-a2.ensures
    c.put_krd_info-a3.ensures c.put_tlv-a4.ensures c.put_tlv-a5.ensures c.put_tlv-a6.ensures c.put_tlv.ensures
