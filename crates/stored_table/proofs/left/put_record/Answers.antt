-- A header that says how long the four fields are, and the fields one after the other.
use Rattle.stored_table.proofs.LeftLaws.{wrote-record}
use Rattle.stored_table.proofs.left.put_record.Goals as goal

pub returns : goal.returns
returns c =
    wrote-record _ _ _ _ c.requires.key_id_len.0 c.requires.key_id_len.1 c.put_header-a1.ensures c.put_tlv-a2.ensures c.put_tlv-a3.ensures
    c.put_tlv-a4.ensures c.put_tlv32.ensures
