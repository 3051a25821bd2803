-- Tag and length, two bytes each.
use Rattle.tlv.proofs.WriteLaws.{then}
use Rattle.tlv.proofs.writer.put_header.Goals as goal

pub returns : goal.returns
returns c =
    then c.put16-a.ensures c.put16.ensures
