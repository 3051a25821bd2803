-- Past refusal 1, for which the output is long enough: each refusal in its turn is the model's, with the output as it came; past them the table is
-- written without the record.
use mathlib.Core.Path.{◌≡◌, sym, ap, ◌∙◌}
use mathlib.Core.Bool.{true, ◌&&◌}
use Prim.Native.Nat.{◌≤◌}
use native.Mathlib.Omega.{arith}
use lib.ListN.{length}
use Rattle.model.specs.Tlv.{fits, key_id, mixed_token}
use Rattle.model.specs.Records.{max_stored, encode}
use Rattle.model.specs.Commands.{on_gave}
use Rattle.model.proofs.StoredForm.{length-encode, decode-ok}
use Rattle.model.proofs.WithdrawalLaws.{withdraw-no-table}
use Rattle.fields.specs.declared.refusals.Refusal.TheVariants.{BrokenTable, WrongLent, NotWithdrawable}
use Rattle.fields.proofs.RefusalLaws.{ends-refused, ends-wrote}
use Rattle.authenticator.proofs.CallLaws.{read_is}
use Rattle.authenticator.proofs.WithdrawLaws.{wrongly_sized, not-withdrawable, withdraws}
use Rattle.authenticator.proofs.withdraw.withdraw.Goals as goal
use Rattle.authenticator.proofs.withdraw.withdraw.Goals.{Else-not-are_sized, In-Some}

pub returns-in_default : goal.returns-in_default
returns-in_default c =
    let room : max_stored ≤ length c.args.table_out.now = omega arith in
    ends-refused BrokenTable (ap (on_gave encode) (withdraw-no-table _ _ room (read_is _ c.in_default.ensures)))

pub returns-then-not-are_sized : goal.returns-then-not-are_sized
returns-then-not-are_sized c =
    let room : max_stored ≤ length c.args.table_out.now = omega arith in
    ends-refused WrongLent
    (ap (on_gave encode) (wrongly_sized _ _ room _ (read_is _ c.in-Some.ensures) (sym c.are_sized.ensures ∙ c.if-not-are_sized.true)))

-- past refusal 4 both have their lengths
sized : (c : Else-not-are_sized) → let a = c.args in
    (fits mixed_token a.mixed.now && fits key_id a.key_id.now) ≡ true
sized c = sym c.are_sized.ensures ∙ c.if-not-are_sized.false

pub returns-then-not-is_withdrawable : goal.returns-then-not-is_withdrawable
returns-then-not-is_withdrawable c =
    let room : max_stored ≤ length c.args.table_out.now = omega arith in
    ends-refused NotWithdrawable
    (ap (on_gave encode)
    (not-withdrawable _ _ room _ (read_is _ c.in-Some.ensures) (sized (goal.at.returns-then-not-is_withdrawable c).Else-not-are_sized) c.is_withdrawable.ensures (c.if-not-is_withdrawable.true)))

pub put_removed-requires : goal.put_removed-requires
put_removed-requires c =
    let room : max_stored ≤ length c.args.table_out.now = omega arith in
    omega (arith, length-encode _ (decode-ok _ _ c.in-Some.ensures), room)

pub returns : goal.returns
returns c =
    let room : max_stored ≤ length c.args.table_out.now = omega arith in
    ends-wrote
    (ap (on_gave encode) (withdraws _ _ room _ (read_is _ c.in-Some.ensures) (sized (goal.at.returns c).Else-not-are_sized) c.is_withdrawable.ensures (c.if-not-is_withdrawable.false)))
    c.put_removed.ensures
