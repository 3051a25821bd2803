-- Too long is 6, then an output that is too short 1.
use native.Mathlib.Omega.{arith}
use Rattle.std.proofs.lemmas.Bool.Decides.{nat_tests}
use Rattle.command_writer.specs.Lengths.{check_len}
use Rattle.command_writer.proofs.lengths.check_len.Goals as goal

pub returns-then-len-gt-MAX_COMMAND : goal.returns-then-len-gt-MAX_COMMAND
unfolding check_len
returns-then-len-gt-MAX_COMMAND c = grind (arith, nat_tests)

pub returns-then-room-len : goal.returns-then-room-len
unfolding check_len
returns-then-room-len c = grind (arith, nat_tests)

pub returns : goal.returns
unfolding check_len
returns c = grind (arith, nat_tests)
