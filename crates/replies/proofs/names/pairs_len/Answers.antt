-- Each record that is named has a header, a name and a KeyID; no more than eight are named.
use native.Mathlib.Omega.{arith}
use Rattle.replies.proofs.PairLaws.{pairs-sum}
use Rattle.replies.proofs.names.pairs_len.Goals as goal

pub returns : goal.returns
returns c =
    omega (arith, pairs-sum c.args.table.now c.args.named.now, c.names_len.ensures.0, c.names_len.ensures.1, c.requires.few)
