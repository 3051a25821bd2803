-- A command that is too long, or whose TLV does not end with its bytes, breaks a rule; any other goes by its child run.
use mathlib.Core.Path.{◌≡◌, sym, ◌∙◌}
use mathlib.Core.Bool.{true}
use Rattle.model.specs.Tlv.{fills}
use Rattle.params.proofs.ParseLaws.{rest_part, broken_long, broken-cut, read_broken}
use Rattle.params.proofs.parse.params_of.Goals as goal
use Rattle.params.proofs.parse.params_of.Goals.{Else-not-is_whole}

-- the command's TLV ends with the lent bytes
whole : (c : Else-not-is_whole) → fills c.args.s.now ≡ true
whole c = sym c.is_whole.ensures ∙ c.if-not-is_whole.false

pub returns-then-s-gt-MAX_COMMAND : goal.returns-then-s-gt-MAX_COMMAND
returns-then-s-gt-MAX_COMMAND c = read_broken (broken_long _ _ c.if-s-gt-MAX_COMMAND.true) c.no_params.ensures

pub returns-then-not-is_whole : goal.returns-then-not-is_whole
returns-then-not-is_whole c =
    read_broken (broken-cut _ _ (sym c.is_whole.ensures ∙ c.if-not-is_whole.true)) c.no_params-then-not-is_whole.ensures

pub returns : goal.returns
returns c =
    c.read_children.ensures.answers _ c.if-s-gt-MAX_COMMAND.false (whole (goal.at.returns c).Else-not-is_whole) (rest_part c.args.s.now)
