-- Word after word: the digest so far has the words' bytes so far.
use Rattle.std.proofs.Common.{◌≡◌, ◌*◌, length, take}
use Rattle.sha256.proofs.BufferLaws.{spelt}
use Rattle.sha256.proofs.message.digest_of.Given as goal

abbrev pub invariant-loop-i : goal.invariant-loop-i
invariant-loop-i l = (length l.digest ≡ 32) × (take (4 * l.i) l.digest ≡ spelt l.word-items l.i)
