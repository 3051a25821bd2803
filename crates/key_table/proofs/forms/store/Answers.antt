-- Past refusal 1: refusal 2 if the form is that of no table, else the form.
use mathlib.Core.Path.{refl}
use native.Mathlib.Omega.{arith}
use Rattle.tlv.proofs.WriteLaws.{same}
use Rattle.key_table.proofs.StoreLaws.{form_ok, form-refused, stores-broken, stores-form}
use Rattle.key_table.proofs.forms.store.Goals as goal

pub returns-in_default : goal.returns-in_default
returns-in_default c = stores-broken _ _ (omega arith) (form-refused c.put_form-n.ensures c.in_default.ensures)

pub returns : goal.returns
returns c =
    let ok = form_ok c.put_form-n.ensures c.in-Some.ensures in
    stores-form _ _ (omega arith) ok (same (c.put_form-n.ensures.whole ok) refl c.put_bytes.ensures)
