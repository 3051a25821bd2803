-- The four tests are the definition's two.
use native.Mathlib.Omega.{arith}
use Rattle.utf8.proofs.PlaceLaws.{misplaced_is}
use Rattle.utf8.proofs.misplaced.Goals as goal

pub returns : goal.returns
returns c =
    rw (c.is_owed.ensures, c.is_never.ensures, c.is_barred.ensures)
    (misplaced_is c.args.a c.args.b c.args.c c.args.d (omega arith))
