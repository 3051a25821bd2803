-- The rows are the KeyIDs of the table.
use native.Mathlib.Omega.{arith}
use Rattle.stored_table.specs.Stored.{key_id_at}
use Rattle.stored_table.proofs.IndexLaws.{all_stand, stand_within, keys-are}
use Rattle.stored_table.proofs.table.StoredTable.is_stored.Goals as goal

pub is_among-requires : goal.is_among-requires
is_among-requires c = stand_within _ _ key_id_at (omega arith) (all_stand c.self.invariant)

pub returns : goal.returns
returns c = rw (← c.self.view_is) (rw (keys-are c.self.invariant) at c.is_among.ensures)
