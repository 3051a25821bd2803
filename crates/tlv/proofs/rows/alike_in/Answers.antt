-- The mark at hand counts if it is x; behind the last there is none.
use Rattle.std.proofs.Common.{arith}
use borrow.Author.Tests.{eq-eqb, ne_eqb}
use Rattle.tlv.proofs.RowLaws.{alike_end, alike_at}
use Rattle.tlv.proofs.rows.alike_in.Goals as goal
use Rattle.tlv.proofs.rows.alike_in.Goals.{then-m-x, else-m-x}

pub loop-m-preserved : goal.loop-m-preserved
loop-m-preserved c =
    let a = c.args in
    elim c.if-m-x.branch [
      | then-m-x w ↦
          let e = alike_at a.x a.marks.now _ c.loop-m-test.true (eq-eqb _ _ w.if-m-x.true) in
          (omega (arith, c.loop-m.invariant, w.k-is), omega (arith, e, c.loop-m.invariant, w.k-is))
      | else-m-x w ↦
          let e = alike_at a.x a.marks.now _ c.loop-m-test.true (ne_eqb _ _ w.if-m-x.false) in
          (omega (arith, c.loop-m.invariant, w.k-is), omega (arith, e, c.loop-m.invariant, w.k-is))
    ]

pub returns : goal.returns
returns c =
    let a = c.args in
    omega (arith, c.loop-m.invariant, alike_end a.x a.marks.now _ c.loop-m-test.false)
