use native.Mathlib.Omega.{arith}
use Rattle.stored_table.proofs.NewestLaws.{none_behind, last-stands, not-its-own, is_newest, none_newest}
use Rattle.stored_table.proofs.table.StoredTable.is_withdrawable.Goals as goal

pub returns-then-row_is : goal.returns-then-row_is
returns-then-row_is c =
    rw (← c.self.view_is)
    (is_newest _ c.self.invariant c.loop-place.invariant _ _ c.in-Some.ensures.steps c.row_is.ensures _ c.if-row_is.true c.is_unsigned.ensures)

pub loop-place-preserved : goal.loop-place-preserved
loop-place-preserved c =
    not-its-own _ c.self.invariant c.loop-place.invariant _ _ c.in-Some.ensures.steps c.row_is.ensures c.if-row_is.false

pub returns : goal.returns
returns c = rw (← c.self.view_is) (none_newest _ _ c.loop-place.invariant c.in-None.ensures.steps.0)

pub loop-place-init : goal.loop-place-init
loop-place-init c = none_behind _ c.self.invariant cc

pub overflow_add-place : goal.overflow_add-place
overflow_add-place c =
    let there = last-stands _ c.self.invariant c.loop-place.invariant _ _ c.in-Some.ensures.steps in
    omega (arith, there)

pub row_is-requires : goal.row_is-requires
row_is-requires c =
    let there = last-stands _ c.self.invariant c.loop-place.invariant _ _ c.in-Some.ensures.steps in
    omega (arith, there)

pub is_unsigned-requires : goal.is_unsigned-requires
is_unsigned-requires c = last-stands _ c.self.invariant c.loop-place.invariant _ _ c.in-Some.ensures.steps
