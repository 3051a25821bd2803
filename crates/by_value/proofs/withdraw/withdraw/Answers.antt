-- The withdrawal on the form of the table: after a refusal the table that came, else the one that is read from the table output.
use mathlib.Core.Path.{◌≡◌, sym, ◌∙◌}
use Prim.Native.Nat.{◌≤◌}
use native.Mathlib.Omega.{arith}
use lib.ListN.{length}
use lib.Seq.{length-take-le}
use borrow.Author.Rules.{rules}
use Rattle.model.specs.Records.{max_stored}
use Rattle.by_value.proofs.WithdrawLaws.{withdrawn, withdrew_none, left-fits, left-loads, withdrew-one}
use Rattle.by_value.proofs.withdraw.withdraw.Goals as goal
use Rattle.by_value.proofs.withdraw.withdraw.Goals.{In-Ok}

fits : (c : In-Ok) → c.in-Ok.n ≤ length c.withdraw.new.table_out
fits c =
    let few = left-fits (withdrawn _ c.put_form-size.ensures c.withdraw.ensures) c.in-Ok.is in
    let size : length c.withdraw.new.table_out ≡ max_stored = search rules in
    omega (arith, few, size)

pub slice_bounds-left-end : goal.slice_bounds-left-end
slice_bounds-left-end c = fits (goal.at.slice_bounds-left-end c).In-Ok

pub slice_bounds-load-end : goal.slice_bounds-load-end
slice_bounds-load-end c = sym (length-take-le _ _ (fits (goal.at.slice_bounds-load-end c).In-Ok))

pub unwrap-table-requires : goal.unwrap-table-requires
unwrap-table-requires c =
    let loads = c.load.ensures ∙ left-loads (withdrawn _ c.put_form-size.ensures c.withdraw.ensures) c.in-Ok.is in
    rw loads (search rules)

pub returns-in-Err : goal.returns-in-Err
returns-in-Err c = withdrew_none (withdrawn _ c.put_form-size.ensures c.withdraw.ensures) _ c.in-Err.is

pub returns-in-Ok : goal.returns-in-Ok
returns-in-Ok c =
    withdrew-one (withdrawn _ c.put_form-size.ensures c.withdraw.ensures) c.in-Ok.is _ (sym c.unwrap-table.ensures ∙ c.load.ensures)
