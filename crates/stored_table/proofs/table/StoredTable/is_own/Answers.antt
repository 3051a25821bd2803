-- One goes exactly if the mixed token has the KeyID.
use Rattle.stored_table.proofs.LookupLaws.{own_first}
use Rattle.stored_table.proofs.table.StoredTable.is_own.Goals as goal

pub returns : goal.returns
returns c = rw c.len.ensures.0 (own_first _ _ _ c.requires c.next_going.ensures)
