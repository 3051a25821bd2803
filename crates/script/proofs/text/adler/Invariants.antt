-- The two sums are those of the bytes so far.
use Rattle.std.proofs.Common.{◌≡◌, ◌<◌, drop}
use Rattle.script.specs.Adler.{adler_from}
use Rattle.script.proofs.text.adler.Given as goal

abbrev pub invariant-loop-x : goal.invariant-loop-x
invariant-loop-x l = (l.a < 65521) × (l.b < 65521) × (adler_from 1 0 l.s ≡ adler_from l.a l.b (drop l.x-index l.s))
