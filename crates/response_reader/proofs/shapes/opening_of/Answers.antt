-- Without the two headers it is no response; ten bytes are a status alone; more follows status OK alone.
use native.Mathlib.Omega.{arith}
use mathlib.Core.Path.{sym, ◌∙◌}
use Rattle.response_reader.proofs.OpeningLaws.{Headed, headed-is}
use Rattle.response_reader.proofs.ShapeLaws.{unheaded_is}
use Rattle.response_reader.proofs.SignedLaws.{alone_opens, longer-than}
use Rattle.response_reader.proofs.shapes.opening_of.Goals as goal
use Rattle.response_reader.proofs.shapes.opening_of.Goals.{After-get16-status}

-- the two headers are there
start : (c : After-get16-status) → Headed c.args.s.now
start c = headed-is (sym c.is_headed.ensures ∙ c.if-not-is_headed.false)

pub returns-then-not-is_headed : goal.returns-then-not-is_headed
returns-then-not-is_headed c = unheaded_is _ (sym c.is_headed.ensures ∙ c.if-not-is_headed.true)

pub get16-tag-requires : goal.get16-tag-requires
get16-tag-requires c = omega (arith, headed-is (sym c.is_headed.ensures ∙ c.if-not-is_headed.false))

pub get16-status-requires : goal.get16-status-requires
get16-status-requires c = omega (arith, headed-is (sym c.is_headed.ensures ∙ c.if-not-is_headed.false))

pub returns-then-s-eq10 : goal.returns-then-s-eq10
returns-then-s-eq10 c =
    rw c.then_some.ensures
    (alone_opens (start (goal.at.returns-then-s-eq10 c).After-get16-status) (c.type_inv.s 8).fits c.get16-status.ensures.value c.if-s-eq10.true c.get16-tag.ensures.value
    c.is_alone.ensures)

pub returns : goal.returns
returns c =
    longer-than (start (goal.at.returns c).After-get16-status) (c.type_inv.s 8).fits c.get16-status.ensures.value c.if-s-eq10.false c.get16-tag.ensures.value
    (omega arith)
