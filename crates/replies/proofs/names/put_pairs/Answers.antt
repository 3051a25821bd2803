-- Each record that is named is there, and its pair has room.
use native.Mathlib.Omega.{arith}
use Rattle.replies.proofs.PairLaws.{pairs_none, pairs-more, next-room}
use Rattle.replies.proofs.names.put_pairs.Goals as goal

pub loop-record-init : goal.loop-record-init
loop-record-init c = pairs_none _ c.args.at (omega (arith, c.requires.named_in_bounds))

pub put_pair-end-requires : goal.put_pair-end-requires
put_pair-end-requires c =
    let room = next-room c.args.table.now c.args.named.now _ c.loop-record-test.true in (
      c.requires.chosen_of.each _ c.loop-record-test.true,
      omega (arith, c.loop-record.auto.out, c.loop-record.invariant, c.requires.named_in_bounds, room),
    )

pub loop-record-preserved : goal.loop-record-preserved
loop-record-preserved c = pairs-more _ _ _ c.loop-record-test.true c.loop-record.invariant c.put_pair-end.ensures
