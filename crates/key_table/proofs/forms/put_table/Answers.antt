use mathlib.Core.Path.{◌≡◌, ap}
use Prim.Native.Nat.{◌≤◌}
use native.Mathlib.Omega.{arith}
use lib.ListN.{length}
use lib.Seq.{length-take-le}
use Rattle.key_table.proofs.RuleLaws.{few-records, short-name}
use Rattle.key_table.proofs.StoreLaws.{stored_none, stored_more, stored-all}
use Rattle.key_table.proofs.forms.put_table.Goals as goal
use Rattle.key_table.proofs.forms.put_table.Goals.{Start}

module _ (s : Start) where
  few : s.args.t.len ≤ 32
  few = few-records s.args.t s.requires.t_value

  fits : s.args.t.len ≤ length s.args.t.records
  fits =
      let size : length s.args.t.records ≡ 32 = s.well_formed.1.0.1.1.0.1.0.1 in
      omega (arith, few)

pub held-record-items-requires : goal.held-record-items-requires
held-record-items-requires c = few (goal.at.held-record-items-requires c).Start

pub loop-record-init : goal.loop-record-init
loop-record-init c = (omega arith, stored_none _ c.held-record-items.result.now)

pub put_value-at-requires : goal.put_value-at-requires
put_value-at-requires c =
    let l = c.loop-record in
    let s = (goal.at.put_value-at-requires c).Start in
    let items = c.held-record-items.ensures in
    let short = short-name c.args.t c.requires.t_value (fits s) items l.record-index c.loop-record-test.true in
    (short, omega (arith, c.requires, short, few s, fits s, ap length items, length-take-le c.args.t.len c.args.t.records (fits s)))

pub loop-record-preserved : goal.loop-record-preserved
loop-record-preserved c =
    let l = c.loop-record in
    let s = (goal.at.loop-record-preserved c).Start in
    let short = short-name c.args.t c.requires.t_value (fits s) c.held-record-items.ensures l.record-index c.loop-record-test.true in (
      omega (arith, short),
      stored_more _ l.record-index c.loop-record-test.true l.invariant.1 c.put_value-at.ensures,
    )

pub returns : goal.returns
returns c =
    let l = c.loop-record in
    stored-all c.args.t l.record-index (fits (goal.at.returns c).Start) c.held-record-items.ensures (omega arith) l.invariant.1
