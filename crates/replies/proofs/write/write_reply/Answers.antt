-- By the shape: what its writer asks is at hand, and what it wrote is the reply's answer.
use mathlib.Core.Path.{refl, sym, ◌∙◌}
use native.Mathlib.Omega.{arith}
use Rattle.tlv.proofs.HeadLaws.{length_part}
use Rattle.tlv.proofs.WriteLaws.{same}
use Rattle.replies.proofs.ReplyLaws.{info-is, register-draft, size_by, ready_by, wrote_by}
use Rattle.replies.proofs.write.write_reply.Goals as goal

pub put_status-requires : goal.put_status-requires
put_status-requires c =
    omega (arith, c.requires.len_value.1, c.requires.len_value.0 ∙ size_by _ c.in-Status.is _ _ _ _)

pub returns-in-Status : goal.returns-in-Status
returns-in-Status c =
    let e = c.in-Status.is in
    wrote_by _ e _ _ _ _ (same refl (sym (c.requires.len_value.0 ∙ size_by _ e _ _ _ _)) c.put_status.ensures)

pub put_info-requires : goal.put_info-requires
put_info-requires c =
    let e = c.in-Info.is in
    let g = ready_by _ e (rw (← c.lent.view_is) at c.requires.ready) in
    (g.0, g.1, omega (arith, c.requires.len_value.1, c.requires.len_value.0 ∙ size_by _ e _ _ _ _))

pub returns-in-Info : goal.returns-in-Info
returns-in-Info c =
    let e = c.in-Info.is in
    let size = c.requires.len_value.0 ∙ size_by _ e _ _ _ _ in
    rw (← c.lent.view_is) (wrote_by _ e _ _ _ _ (same (sym (info-is _)) (sym size) c.put_info.ensures))

pub put_names-requires-clause-len_value : goal.put_names-requires-clause-len_value
put_names-requires-clause-len_value c = (c.requires.len_value.0 ∙ size_by _ c.in-Names.is _ _ _ _, c.requires.len_value.1)

pub returns-in-Names : goal.returns-in-Names
returns-in-Names c =
    wrote_by _ c.in-Names.is _ _ _ _ c.put_names.ensures

pub put_krd-requires-clause-len_value : goal.put_krd-requires-clause-len_value
put_krd-requires-clause-len_value c =
    let e = c.in-Registration.is in
    let size = (rw (← c.lent.view_is) at c.requires.len_value.0) ∙ size_by _ e _ _ _ _ in
    (rw (c.part_of.ensures, length_part (ready_by _ e c.requires.ready).quoted.challenge.inside) size, c.requires.len_value.1)

pub returns-in-Registration : goal.returns-in-Registration
returns-in-Registration c =
    let e = c.in-Registration.is in
    let hash = c.part_of.ensures ∙ (ready_by _ e c.requires.ready).quoted.challenge.value in
    rw (← c.lent.view_is) (wrote_by _ e _ _ _ _ (rw (register-draft _ _) (rw hash at c.put_krd.ensures)))

pub returns-in-Signed : goal.returns-in-Signed
returns-in-Signed c =
    let e = c.in-Signed.is in
    let q = (ready_by _ e c.requires.ready).quoted in
    let hash = c.part_of-in-Signed.ensures ∙ q.challenge.value in
    let shown = c.part_of-in-Signed-2.ensures ∙ q.content.value in
    rw (← c.lent.view_is) (wrote_by _ e _ _ _ _ (rw (hash, shown, c.key_of.ensures.0) at c.put_signed_data.ensures))

pub put_signed_data-requires : goal.put_signed_data-requires
put_signed_data-requires c =
    let e = c.in-Signed.is in
    let g = ready_by _ e (rw (← c.lent.view_is) at c.requires.ready) in
    let size = (rw (← c.lent.view_is) at c.requires.len_value.0) ∙ size_by _ e _ _ _ _ in
    let part = c.part_of-in-Signed.ensures in
    record {
      aaid_len = (g.aaid, g.nonce, rw part g.quoted.short, c.key_of.ensures.1);
      len_value = (rw (part, length_part g.quoted.challenge.inside) size, c.requires.len_value.1);
    }

pub key_of-requires : goal.key_of-requires
key_of-requires c = (ready_by _ c.in-Signed.is c.requires.ready).there
