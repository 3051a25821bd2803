-- Eight bytes, if the number that they spell is zero.
use native.Mathlib.Omega.{arith}
use Rattle.std.proofs.Common.{rules}
use Rattle.model.specs.Tlv.{le}
use Rattle.layouts.proofs.LeafLaws.{num-whole, zeros_is}
use Rattle.layouts.proofs.after_no_counts.Goals as goal

pub returns : goal.returns
unfolding le
returns c = c.after_allowed.ensures _ (λ v b l m k. rw (zeros_is 8 v (omega arith), ← num-whole 8 v m) (search rules))
