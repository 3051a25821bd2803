-- Place after place; what passed so far is told by `wrong`.
use mathlib.Core.Path.{◌≡◌}
use mathlib.Core.Bool.{not}
use Rattle.utf8.specs.Places.{places}
use Rattle.utf8.proofs.window.Given as goal

abbrev pub invariant-loop-i : goal.invariant-loop-i
invariant-loop-i l = l.wrong ≡ not (places l.i l.s l.at)
