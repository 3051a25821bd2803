-- GetInfo gives the information unless a rule is broken.
use mathlib.Core.Path.{refl}
use Rattle.replies.specs.Replies.{answer_of}
use Rattle.commands.proofs.DecisionLaws.{info_checked, always-broken, always-given}
use Rattle.commands.proofs.get_info.get_info.Goals as goal

pub returns-then-params : goal.returns-then-params
returns-then-params c = always-broken info_checked c.if-params.true

pub returns : goal.returns
unfolding answer_of
returns c = rw c.plain.ensures (always-given info_checked c.if-params.false (λ s l t. refl) (λ s t c. refl))
