use native.Mathlib.Omega.{arith}
use Rattle.stored_table.proofs.IndexLaws.{record-at, counted}
use Rattle.stored_table.proofs.LeftLaws.{goes-here, stays_here, none_here}
use Rattle.stored_table.proofs.table.StoredTable.next_going.Goals as goal

pub is_going-requires : goal.is_going-requires
is_going-requires c = (record-at c.self.invariant c.loop-j.j (omega arith)).stands

pub returns-then-is_going : goal.returns-then-is_going
returns-then-is_going c =
    let n = counted c.self.invariant c.self.view_is in
    let here = goes-here _ _ c.self.invariant c.self.view_is c.loop-j.j (omega (arith, n)) c.is_going.ensures c.if-is_going.true in
    omega (arith, here, c.loop-j.invariant)

pub loop-j-preserved : goal.loop-j-preserved
loop-j-preserved c =
    let n = counted c.self.invariant c.self.view_is in
    let here = stays_here _ _ c.self.invariant c.self.view_is c.loop-j.j (omega (arith, n)) c.is_going.ensures c.if-is_going.false in
    omega (arith, here, c.loop-j.invariant)

pub returns : goal.returns
returns c =
    let n = counted c.self.invariant c.self.view_is in
    let here = none_here c.args.mixed.now c.args.key.now c.args.self.now c.loop-j.j (omega (arith, n)) in
    omega (arith, n, here, c.loop-j.invariant, c.loop-j.auto.j-end)
