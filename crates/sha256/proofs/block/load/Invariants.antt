-- Word after word: the array so far has the words of the block so far.
use Rattle.std.proofs.Common.{◌≡◌, length, take}
use Rattle.model.specs.Sha256.{words_of}
use Rattle.sha256.proofs.block.load.Given as goal

abbrev pub invariant-loop-n : goal.invariant-loop-n
invariant-loop-n l = (length l.w ≡ 64) × (take l.n l.w ≡ words_of l.n l.block)
