-- The opening, the draft, and in the attestation tag the signature and a full attestation's certificate.
use Rattle.model.specs.Complete.{completed}
use Rattle.tlv.proofs.WriteLaws.{then, then_value}
use Rattle.completion.specs.Completions.{completion}
use Rattle.completion.proofs.WriterLaws.{opened, with_certificate, without_certificate}
use Rattle.completion.proofs.writers.put_registration.Goals as goal

pub returns-then-attestation-ne-BASIC_FULL : goal.returns-then-attestation-ne-BASIC_FULL
unfolding completed
returns-then-attestation-ne-BASIC_FULL c =
    let a = c.args in
    let x = completion 0 a.draft.now a.attestation a.signature.now a.certificate.now 0 in
    opened _ _ c.put_opening-a1.ensures
    (then c.put_bytes-a2.ensures
    (then_value _ c.put_header-a3.ensures (without_certificate x c.if-attestation-ne-BASIC_FULL.true c.certificate_len.ensures c.put_tlv.ensures)))

pub returns : goal.returns
unfolding completed
returns c =
    let a = c.args in
    let x = completion 0 a.draft.now a.attestation a.signature.now a.certificate.now 0 in
    opened _ _ c.put_opening-a1.ensures
    (then c.put_bytes-a2.ensures
    (then_value _ c.put_header-a3.ensures
    (with_certificate x c.if-attestation-ne-BASIC_FULL.false c.certificate_len.ensures c.put_tlv-a4.ensures c.put_tlv-2.ensures)))
