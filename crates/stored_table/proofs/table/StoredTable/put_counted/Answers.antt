-- The table, and the count over the one that stands in the record.
use native.Mathlib.Omega.{arith}
use Rattle.stored_table.proofs.IndexLaws.{sized, has_place, stands_at}
use Rattle.stored_table.proofs.LeftLaws.{wrote_counted}
use Rattle.stored_table.proofs.table.StoredTable.put_counted.Goals as goal

pub put32-requires : goal.put32-requires
put32-requires c =
    let there = stands_at c.self.invariant c.self.view_is c.args.i c.requires.0 in
    omega (arith, c.count_place-place.ensures, there, sized c.self.invariant c.self.view_is, c.requires)

pub returns : goal.returns
returns c =
    let h = has_place c.self.invariant c.self.view_is c.args.i c.requires.0 in
    rw (← c.self.view_is)
    (wrote_counted c.self.invariant c.args.i h c.args.count c.count_place-place.ensures c.put_bytes-end.ensures c.put32.ensures)
