use Rattle.std.proofs.Common.{◌≡◌, refl, sym, ◌∙◌, arith, take_all, rules}
use Rattle.std.proofs.lemmas.Slice.{overwrites}
use Rattle.model.specs.Sha256.{be, digest}
use Rattle.sha256.proofs.BufferLaws.{spelt, spelt-next}
use Rattle.sha256.proofs.message.digest_of.Goals as goal

pub loop-i-init : goal.loop-i-init
unfolding spelt
loop-i-init c = (refl, refl)

pub loop-i-preserved : goal.loop-i-preserved
loop-i-preserved c =
    let inv = c.loop-i.invariant in
    (search (rules, overwrites), spelt-next _ _ _ _ _ inv.0 (omega arith) inv.1 (c.copy_from_slice.ensures.after ∙ c.to_be_bytes.ensures))

pub returns : goal.returns
unfolding spelt digest be
returns c =
    let e : c.loop-i.i ≡ 8 = omega arith in
    sym (take_all 32 _ (omega arith)) ∙ rw e at c.loop-i.invariant.1
