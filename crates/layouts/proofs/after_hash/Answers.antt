-- The size of the hash, with content or without.
use Rattle.layouts.proofs.after_hash.Goals as goal

pub returns-then-content : goal.returns-then-content
returns-then-content c = rw c.if-content.true c.after_sized.ensures

pub returns : goal.returns
returns c = rw c.if-content.false c.after_sized-2.ensures
