-- A header and its value are a TLV.
use Rattle.tlv.proofs.WriteLaws.{then_value}
use Rattle.tlv.proofs.writer.put_tlv.Goals as goal

pub returns : goal.returns
returns c =
    then_value _ c.put_header-a.ensures c.put_bytes.ensures
