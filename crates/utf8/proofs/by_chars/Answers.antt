use mathlib.Core.Path.{sym, ◌∙◌}
use native.Mathlib.Omega.{arith}
use Rattle.utf8.proofs.CharLaws.{past_end}
use Rattle.utf8.proofs.by_chars.Goals as goal

pub returns : goal.returns
returns c =
    sym (c.loop-at.invariant.1 ∙ past_end c.args.s.now c.loop-at.at (omega arith))
