-- Where the mark is not 1 nothing is written.
use native.Mathlib.Omega.{arith}
use Rattle.command_writer.proofs.PartLaws.{wrote-not-given}
use Rattle.command_writer.proofs.marked.Marked.put.Goals as goal

pub returns : goal.returns
returns c = wrote-not-given _ _ (λ e. omega arith) c.requires
