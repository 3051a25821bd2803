-- A status alone where none is chosen, one record signed for, or the names of several.
use mathlib.Core.Path.{sym, ap, ◌∙◌}
use mathlib.Core.Bool.{not}
use native.Mathlib.Omega.{arith}
use Rattle.std.proofs.lemmas.Result.{err_from_is_err_and}
use Rattle.model.specs.Commands.{has_content}
use Rattle.commands.proofs.JudgeLaws.{placed_empty}
use Rattle.commands.proofs.SignLaws.{Chose, chose, sign_fails, sign-placed, none_chosen, one-chosen, several_chosen}
use Rattle.commands.proofs.sign.sign.Goals as goal
use Rattle.commands.proofs.sign.sign.Goals.{After-choose-named}

pub returns-in_err-judge_sign : goal.returns-in_err-judge_sign
returns-in_err-judge_sign c =
    let p = err_from_is_err_and c.from_residual.result c.from_residual.ensures.1 in
    λ k. rw (p.1, p.2) (sign_fails _ c.requires.params_read.0 c.in_err-judge_sign.ensures)

-- the records found are those chosen
found : (c : After-choose-named) → let a = c.args in
    Chose a.command.now a.numbers a.mixed.now a.table.now a.params c.choose-named.new.chosen
    c.choose-named.result
found c =
    let q = c.requires.params_read in
    chose _ q.0 c.in_ok-judge_sign.ensures q.1 (omega (arith, c.choose-named.auto.chosen, c.requires.chosen_len)) c.choose-named.ensures

pub returns-in-0 : goal.returns-in-0
returns-in-0 c = λ k. none_chosen (found (goal.at.returns-in-0 c).After-choose-named) c.in-0.is

pub count_of-count-requires : goal.count_of-count-requires
count_of-count-requires c = ((found (goal.at.count_of-count-requires c).After-choose-named).mine c.in-1.is).there

pub returns-in-1 : goal.returns-in-1
unfolding has_content
returns-in-1 c =
    let w = found (goal.at.returns-in-1 c).After-choose-named in
    let p = sign-placed c.args.numbers c.requires.params_read.0 c.in_ok-judge_sign.ensures in
    λ k. one-chosen w c.in-1.is
    (ap not (placed_empty _ _ _ p.transaction-content ∙ sym c.is_empty-content.ensures))
    (sym c.count_of-count.ensures)
    c.sign_one.ensures

pub returns-in_default : goal.returns-in_default
returns-in_default c =
    λ k. several_chosen (found (goal.at.returns-in_default c).After-choose-named) (λ e. omega (arith, e)) (λ e. omega (arith, e))
