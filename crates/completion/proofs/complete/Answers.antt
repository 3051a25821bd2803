-- The refusals 1, 5 and 4 in that order, then the response of the kind and the attestation type.
use mathlib.Core.Path.{sym, ap, ◌∙◌}
use native.Mathlib.Omega.{arith}
use lib.ListN.{length}
use Rattle.std.proofs.lemmas.Result.{err_from_is_err_and}
use Rattle.completion.specs.Completions.{completion, kind_number}
use Rattle.completion.proofs.CompletionLaws.{no_kind-ends, no_draft-ends, lent-ends, Passes, passed, parts-short, certificate-short, sign-ends, registration-ends}
use borrow.Author.Rules.{rules}
use Rattle.completion.proofs.complete.Goals as goal
use Rattle.completion.proofs.complete.Goals.{Else-not-completion_ok}

pub returns-in_err-kind : goal.returns-in_err-kind
returns-in_err-kind c =
    let p = err_from_is_err_and c.from_residual.result c.from_residual.ensures.1 in
    rw (p.1, p.2, c.in_err-kind.ensures.0) (no_kind-ends _ c.if-out-lt-LEAST_OUTPUT.false c.in_err-kind.ensures.1)

pub returns-then-not-is_draft : goal.returns-then-not-is_draft
returns-then-not-is_draft c =
    no_draft-ends _ c.if-out-lt-LEAST_OUTPUT.false _ c.in_ok-kind.ensures c.is_draft.ensures c.if-not-is_draft.true

pub returns-then-not-completion_ok : goal.returns-then-not-completion_ok
returns-then-not-completion_ok c =
    lent-ends _ c.if-out-lt-LEAST_OUTPUT.false _ c.in_ok-kind.ensures c.is_draft.ensures c.if-not-is_draft.false
    c.completion_ok.ensures c.if-not-completion_ok.true

passes : (c : Else-not-completion_ok) → let a = c.args in
    Passes (completion a.kind a.draft.now a.attestation a.signature.now a.certificate.now (length a.out.now))
passes c =
    passed _ c.if-out-lt-LEAST_OUTPUT.false _ c.in_ok-kind.ensures (sym c.is_draft.ensures ∙ c.if-not-is_draft.false)
    (sym c.completion_ok.ensures ∙ c.if-not-completion_ok.false)

pub put_sign-len-requires : goal.put_sign-len-requires
put_sign-len-requires c = let p = passes (goal.at.put_sign-len-requires c).Else-not-completion_ok in let h = parts-short p in (omega arith, p.room)

pub returns-in-Sign : goal.returns-in-Sign
returns-in-Sign c =
    sign-ends (passes (goal.at.returns-in-Sign c).Else-not-completion_ok) (c.in_ok-kind.ensures ∙ ap kind_number c.in-Sign.is) c.put_sign-len.ensures

pub put_registration-len-requires : goal.put_registration-len-requires
put_registration-len-requires c =
    let p = passes (goal.at.put_registration-len-requires c).Else-not-completion_ok in
    let h = parts-short p in
    let i = certificate-short p (c.in_ok-kind.ensures ∙ ap kind_number c.in-Registration.is) in
    (omega arith, search rules)

pub returns-in-Registration : goal.returns-in-Registration
returns-in-Registration c =
    registration-ends (passes (goal.at.returns-in-Registration c).Else-not-completion_ok) (c.in_ok-kind.ensures ∙ ap kind_number c.in-Registration.is)
    c.put_registration-len.ensures
