-- Each kind of change is made by its own writer, and leaves what the definition says.
use mathlib.Core.Path.{refl, sym, ap, ◌∙◌}
use native.Mathlib.Omega.{arith}
use Rattle.model.specs.Records.{encode}
use Rattle.tlv.proofs.WriteLaws.{same, from_front}
use Rattle.stored_table.proofs.ChangeLaws.{arm_can, arm_apply, apply_kept, set_counted, stored-most, encoded-most}
use Rattle.stored_table.proofs.table.StoredTable.put_left.Goals as goal

pub put_bytes-requires : goal.put_bytes-requires
put_bytes-requires c = omega (arith, stored-most c.self.invariant, c.requires.max_stored_in_bounds)

pub put_counted-requires : goal.put_counted-requires
put_counted-requires c =
    let can = arm_can _ _ _ _ c.in-SetCount.is c.requires.can in
    (can.there, omega (arith, encoded-most c.self.invariant c.self.view_is, c.requires.max_stored_in_bounds))

pub put_removed-requires : goal.put_removed-requires
put_removed-requires c =
    omega (arith, encoded-most c.self.invariant c.self.view_is, c.requires.max_stored_in_bounds)

pub returns-in-Keep : goal.returns-in-Keep
returns-in-Keep c =
    let e = arm_apply _ _ _ _ c.in-Keep.is in
    let w = sym c.self.invariant.whole ∙ ap encode (c.self.view_is ∙ apply_kept _ _ ∙ e) in
    from_front (same w refl c.put_bytes.ensures)

pub returns-in-SetCount : goal.returns-in-SetCount
returns-in-SetCount c =
    let e = c.in-SetCount.is in
    let ok = rw c.self.view_is at c.self.invariant.ok in
    let counted = set_counted _ ok (arm_can _ _ _ _ e c.requires.can) in
    same (ap encode (counted ∙ arm_apply _ _ _ _ e)) refl c.put_counted.ensures
