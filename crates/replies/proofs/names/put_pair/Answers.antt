-- A header, the name and the KeyID of the record.
use native.Mathlib.Omega.{arith}
use mathlib.Core.Path.{ap}
use lib.ListN.{length}
use Rattle.replies.proofs.PairLaws.{wrote_pair}
use Rattle.replies.proofs.names.put_pair.Goals as goal

pub put_tlv-a2-requires : goal.put_tlv-a2-requires
put_tlv-a2-requires c = omega (arith, ap length c.name_of.ensures.0, c.name_of.ensures.1)

pub put_tlv-requires : goal.put_tlv-requires
put_tlv-requires c = omega (arith, ap length c.name_of.ensures.0, c.name_of.ensures.1, c.key_of.ensures.1)

pub returns : goal.returns
returns c =
    wrote_pair _ c.name_len.ensures.0 c.name_of.ensures.0 c.key_of.ensures c.put_header-a1.ensures c.put_tlv-a2.ensures c.put_tlv.ensures
