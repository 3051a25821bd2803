-- A header and a number of two bytes are a TLV.
use Rattle.tlv.proofs.WriteLaws.{then_value}
use Rattle.tlv.proofs.writer.put_tlv16.Goals as goal

pub returns : goal.returns
returns c =
    then_value _ c.put_header-a.ensures c.put16.ensures
