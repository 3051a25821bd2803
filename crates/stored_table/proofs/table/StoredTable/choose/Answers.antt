use native.Mathlib.Omega.{arith}
use Rattle.stored_table.proofs.IndexLaws.{all_stand}
use Rattle.stored_table.proofs.LookupLaws.{choosing, chosen-all, chosen-not, chosen-room, chosen_more}
use Rattle.stored_table.proofs.table.StoredTable.choose.Goals as goal
use Rattle.stored_table.proofs.table.StoredTable.choose.Goals.{then-is_chosen, else-is_chosen}

pub loop-i-init : goal.loop-i-init
loop-i-init c = choosing _ _ _ _ c.requires.chosen_len

pub is_chosen-requires-clause-stands : goal.is_chosen-requires-clause-stands
is_chosen-requires-clause-stands c = (all_stand c.self.invariant).each _ c.loop-i-test.true

pub bounds-chosen-len : goal.bounds-chosen-len
bounds-chosen-len c =
    let room = chosen-room _ _ c.self.invariant c.loop-i.invariant c.loop-i-test.true _ c.is_chosen.ensures c.if-is_chosen.true in
    omega (arith, room, c.loop-i.invariant.size)

pub loop-i-preserved : goal.loop-i-preserved
loop-i-preserved c =
    let x = c.self.invariant in
    let h = c.loop-i-test.true in
    elim c.if-is_chosen.branch [
      | then-is_chosen w ↦ rw (w.chosen-is, w.len-is) (chosen_more _ _ x c.loop-i.invariant h _ c.is_chosen.ensures w.if-is_chosen.true)
      | else-is_chosen w ↦ rw (w.chosen-is, w.len-is) (chosen-not _ _ x c.loop-i.invariant h _ c.is_chosen.ensures w.if-is_chosen.false)
    ]

pub returns : goal.returns
returns c = rw (← c.self.view_is) (chosen-all _ _ c.self.invariant c.loop-i.invariant c.loop-i-test.false)
