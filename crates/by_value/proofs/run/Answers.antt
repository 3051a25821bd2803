-- The call on the form of the table: after a refusal the table that came, else the one that is read from the table output.
use mathlib.Core.Path.{◌≡◌, sym, ◌∙◌}
use Prim.Native.Nat.{◌≤◌}
use native.Mathlib.Omega.{arith}
use lib.ListN.{length}
use lib.Seq.{length-take-le}
use borrow.Author.Rules.{rules}
use Rattle.model.specs.Records.{max_stored}
use Rattle.by_value.proofs.RunLaws.{called, ends-refused, left-fits, left-loads, ends-left}
use Rattle.by_value.proofs.run.Goals as goal
use Rattle.by_value.proofs.run.Goals.{In-Ok}

fits : (c : In-Ok) → c.in-Ok.gave.table_len ≤ length c.call.new.table_out
fits c =
    let few = left-fits (called _ c.put_form-size.ensures c.call.ensures) c.in-Ok.is in
    let size : length c.call.new.table_out ≡ max_stored = search rules in
    omega (arith, few, size)

pub slice_bounds-left-end : goal.slice_bounds-left-end
slice_bounds-left-end c = fits (goal.at.slice_bounds-left-end c).In-Ok

pub slice_bounds-load-end : goal.slice_bounds-load-end
slice_bounds-load-end c = sym (length-take-le _ _ (fits (goal.at.slice_bounds-load-end c).In-Ok))

pub unwrap-table-requires : goal.unwrap-table-requires
unwrap-table-requires c =
    let loads = c.load.ensures ∙ left-loads (called _ c.put_form-size.ensures c.call.ensures) c.in-Ok.is in
    rw loads (search rules)

pub returns-in-Err : goal.returns-in-Err
returns-in-Err c = ends-refused (called _ c.put_form-size.ensures c.call.ensures) _ c.in-Err.is

pub returns-in-Ok : goal.returns-in-Ok
returns-in-Ok c =
    ends-left (called _ c.put_form-size.ensures c.call.ensures) c.in-Ok.is _ (sym c.unwrap-table.ensures ∙ c.load.ensures)
