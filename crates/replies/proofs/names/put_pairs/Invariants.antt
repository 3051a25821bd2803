-- The pairs of the records so far are written; what is lent keeps its length.
use lib.ListN.{take}
use Rattle.tlv.specs.Writing.{Wrote}
use Rattle.stored_table.specs.Chosen.{records_at}
use Rattle.replies.specs.Writes.{pairs_of}
use Rattle.replies.specs.Replies.{pairs_size}
use Rattle.replies.proofs.names.put_pairs.Given as goal

abbrev pub invariant-loop-record : goal.invariant-loop-record
invariant-loop-record l =
    let rs = records_at l.table (take l.record-index l.named) in
    Wrote l.initial.out l.at (pairs_of rs) (pairs_size rs) l.out l.end
