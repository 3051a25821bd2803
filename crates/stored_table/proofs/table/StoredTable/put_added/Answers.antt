-- The table's own bytes, then the record's: a table that is not full leaves room for the longest.
use native.Mathlib.Omega.{arith}
use Rattle.stored_table.proofs.LeftLaws.{room-more, wrote_added}
use Rattle.stored_table.proofs.table.StoredTable.put_added.Goals as goal

pub put_bytes-end-requires : goal.put_bytes-end-requires
put_bytes-end-requires c =
    let n = rw (← c.self.view_is) at c.requires.self_len in
    omega (arith, room-more _ c.self.invariant.whole c.self.invariant.ok n)

pub put_record-requires-clause-name_in_bounds : goal.put_record-requires-clause-name_in_bounds
put_record-requires-clause-name_in_bounds c =
    let n = rw (← c.self.view_is) at c.requires.self_len in
    omega (arith, room-more _ c.self.invariant.whole c.self.invariant.ok n)

pub returns : goal.returns
returns c =
    rw (← c.self.view_is) (wrote_added _ c.self.invariant.whole _ _ _ c.put_bytes-end.ensures c.put_record.ensures)
