-- Opening, draft and signature are the completed response to a Sign.
use Rattle.model.specs.Complete.{completed}
use Rattle.tlv.proofs.WriteLaws.{then}
use Rattle.completion.proofs.WriterLaws.{opened}
use Rattle.completion.proofs.writers.put_sign.Goals as goal

pub returns : goal.returns
unfolding completed
returns c =
    opened _ _ c.put_opening-a1.ensures (then c.put_bytes-a2.ensures c.put_tlv.ensures)
