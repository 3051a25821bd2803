-- The row at hand counts if it is v; behind the last there is none.
use Rattle.std.proofs.Common.{arith, ap}
use Rattle.tlv.specs.Rows.{times}
use Rattle.tlv.proofs.RowLaws.{rows_end, times-at}
use Rattle.tlv.proofs.rows.Rows.times.Goals as goal
use Rattle.tlv.proofs.rows.Rows.times.Goals.{then-row_is, else-row_is}

pub loop-p-preserved : goal.loop-p-preserved
loop-p-preserved c =
    let r = c.args.self.now in
    let at = times-at r.off r.places.now r.stretch.now _ c.loop-p-test.true c.args.v.now c.row_is.ensures in
    elim c.if-row_is.branch [
      | then-row_is w ↦
          let e = rw w.if-row_is.true at at in
          (omega (arith, c.loop-p.invariant, w.k-is), omega (arith, e, c.loop-p.invariant, w.k-is))
      | else-row_is w ↦
          let e = rw w.if-row_is.false at at in
          (omega (arith, c.loop-p.invariant, w.k-is), omega (arith, e, c.loop-p.invariant, w.k-is))
    ]

pub returns : goal.returns
unfolding times
returns c =
    let r = c.args.self.now in
    omega (arith, c.loop-p.invariant, ap (times c.args.v.now) (rows_end r.off r.places.now r.stretch.now _ c.loop-p-test.false))
