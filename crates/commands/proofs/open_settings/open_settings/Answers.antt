-- Settings are never open: the status tells whether a rule is broken.
use mathlib.Core.Path.{refl}
use Rattle.model.specs.Commands.{only}
use Rattle.replies.specs.Replies.{answer_of}
use Rattle.commands.proofs.DecisionLaws.{settings_checked, always-broken, always-given}
use Rattle.commands.proofs.open_settings.open_settings.Goals as goal

pub returns-then-params : goal.returns-then-params
returns-then-params c = always-broken settings_checked c.if-params.true

pub returns : goal.returns
unfolding answer_of only
returns c = always-given settings_checked c.if-params.false (λ s l t. refl) (λ s t c. tt)
