use native.Mathlib.Omega.{arith}
use Rattle.stored_table.proofs.IndexLaws.{record-at, place_is, sized}
use Rattle.stored_table.proofs.LeftLaws.{removing_none, removing-room, removing-stays, removing-goes, removing-all, end_is, stored_ends}
use Rattle.stored_table.proofs.table.StoredTable.put_removed.Goals as goal
use Rattle.stored_table.proofs.table.StoredTable.put_removed.Goals.{then-is_going, else-is_going}

pub returns : goal.returns
returns c = rw (← c.self.view_is) (removing-all _ _ c.self.invariant c.loop-i.invariant c.loop-i-test.false c.put_bytes.ensures)

pub loop-i-preserved : goal.loop-i-preserved
loop-i-preserved c =
    let x = c.self.invariant in
    let h = c.loop-i-test.true in
    elim c.if-is_going.branch [
      | then-is_going w ↦
          let goes = w.if-is_going.true in
          rw (w.out-is, w.end-is, w.from-is)
          (removing-goes _ _ x c.loop-i.invariant h c.is_going.ensures goes w.put_bytes-end.ensures (rw (← c.self.view_is) at w.start_of-from.ensures))
      | else-is_going w ↦ rw (w.out-is, w.end-is, w.from-is) (removing-stays _ _ x c.loop-i.invariant h c.is_going.ensures w.if-is_going.false)
    ]

pub loop-i-init : goal.loop-i-init
loop-i-init c = removing_none _ _ c.self.invariant _

pub is_going-requires : goal.is_going-requires
is_going-requires c = (record-at c.self.invariant c.loop-i.i (omega arith)).stands

pub slice_bounds-put_bytes-end : goal.slice_bounds-put_bytes-end
slice_bounds-put_bytes-end c =
    omega (arith, place_is c.self.invariant c.loop-i.i (omega arith), stored_ends c.self.invariant c.loop-i.i)

pub put_bytes-end-requires : goal.put_bytes-end-requires
put_bytes-end-requires c =
    omega (arith, removing-room _ _ c.self.invariant c.loop-i.invariant (place_is c.self.invariant c.loop-i.i c.loop-i-test.true), c.requires, sized c.self.invariant c.self.view_is)

pub put_bytes-requires : goal.put_bytes-requires
put_bytes-requires c =
    omega (arith, removing-room _ _ c.self.invariant c.loop-i.invariant (end_is c.self.invariant c.loop-i.i c.loop-i-test.false), c.requires, sized c.self.invariant c.self.view_is)
