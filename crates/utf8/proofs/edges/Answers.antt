-- The three places at either end.
use native.Mathlib.Omega.{arith}
use Rattle.utf8.proofs.CodeLaws.{front_three, back_three}
use Rattle.utf8.proofs.edges.Goals as goal

pub returns : goal.returns
returns c =
    let s = c.args.s.now in
    rw (c.passes-front.ensures, c.passes-back.ensures, front_three s (omega arith), back_three s (omega arith))
