-- Four bytes, if the number that they spell is not zero.
use Rattle.std.proofs.Common.{rules}
use Rattle.layouts.proofs.LeafLaws.{num-whole}
use Rattle.layouts.proofs.after_count.Goals as goal

pub returns : goal.returns
returns c = c.after_allowed.ensures _ (λ v b l m k. let e = num-whole 4 v m in rw (← e) (search rules))
