-- The hash is that of the two stretches, one after the other.
use Rattle.token.proofs.hashes.uaf_hash.Goals as goal

pub returns : goal.returns
returns c = c.hash-digest.ensures
