-- Each refusal in its turn is the model's, with both outputs as they came; past them the command is performed.
use mathlib.Core.Path.{sym, ◌∙◌}
use Prim.Native.Nat.{◌≤◌}
use lib.ListN.{length}
use Rattle.model.specs.Records.{max_stored}
use Rattle.model.specs.Commands.{least_output}
use Rattle.model.proofs.Refusals.{short-output, no_table, no-command, wrongly-lent, performs}
use Rattle.fields.specs.declared.refusals.Refusal.TheVariants.{ShortOutput, BrokenTable, NoCommand, WrongLent}
use Rattle.authenticator.proofs.CallLaws.{ends-refused, ends_same, too_short, long_enough, read_is}
use Rattle.authenticator.proofs.call.call.Goals as goal
use Rattle.authenticator.proofs.call.call.Goals.{Else-is_short}

-- past refusal 1 both outputs are long enough
room : (c : Else-is_short) → (least_output ≤ length c.args.response.now) × (max_stored ≤ length c.args.table_out.now)
room c = long_enough _ _ c.is_short.ensures c.if-is_short.false

pub returns-then-is_short : goal.returns-then-is_short
returns-then-is_short c = ends-refused ShortOutput _ _ (short-output _ _ (too_short _ _ c.is_short.ensures c.if-is_short.true))

pub returns-in_default : goal.returns-in_default
returns-in_default c =
    let r = room (goal.at.returns-in_default c).Else-is_short in
    ends-refused BrokenTable _ _ (no_table _ _ r.0 r.1 (read_is _ c.in_default.ensures))

pub returns-in_default-kind_of : goal.returns-in_default-kind_of
returns-in_default-kind_of c =
    let r = room (goal.at.returns-in_default-kind_of c).Else-is_short in
    ends-refused NoCommand _ _ (no-command _ _ r.0 r.1 _ (read_is _ c.in-Some.ensures) (sym c.in_default-kind_of.ensures))

pub returns-then-not-is_ok_for : goal.returns-then-not-is_ok_for
returns-then-not-is_ok_for c =
    let r = room (goal.at.returns-then-not-is_ok_for c).Else-is_short in
    ends-refused WrongLent _ _
    (wrongly-lent _ _ r.0 r.1 _ (read_is _ c.in-Some.ensures) _ (sym c.in-Some-kind_of.ensures)
    (sym c.is_ok_for.ensures ∙ c.if-not-is_ok_for.true))

pub returns : goal.returns
returns c =
    let r = room (goal.at.returns c).Else-is_short in
    ends_same _
    (performs _ _ r.0 r.1 _ (read_is _ c.in-Some.ensures) _ (sym c.in-Some-kind_of.ensures)
    (sym c.is_ok_for.ensures ∙ c.if-not-is_ok_for.false))
    c.perform.ensures
