-- Where bytes are left a TLV stands or none; a composite's value goes one level deeper.
use Rattle.std.proofs.Common.{rules, arith, ◌∙◌, sym}
use Rattle.tlv.proofs.HeadLaws.{tlv-is, no-tlv, head_end, all_end, all_bad, inner, well_none, well_run, step_in, step-over}
use Rattle.tlv.proofs.reader.+well_formed.Goals as goal
use Rattle.tlv.proofs.reader.+well_formed.Goals.{else-tag-eq1-via-then-tag-eq1+else-not-well_formed, else-tag-eq1-via-else-tag-eq1}

pub returns-then-levels-eq0 : goal.returns-then-levels-eq0
returns-then-levels-eq0 t c = sym (rw c.if-levels-eq0.true (well_none c.args.s.now ∙ sym c.is_empty.ensures))

pub loop-at-init : goal.loop-at-init
loop-at-init t c = (search rules, well_run c.args.levels c.args.s.now c.if-levels-eq0.false)

pub returns-in_default : goal.returns-in_default
returns-in_default t c =
    let bad = no-tlv _ _ c.loop-at-test.true (λ tag start end e. c.in_default.not-Tlv tag start end (c.tlv_at.ensures ∙ e)) in
    sym (c.loop-at.invariant.1 ∙ all_bad (inner c.args.levels) _ _ bad)

pub slice_bounds-well_formed-count : goal.slice_bounds-well_formed-count
slice_bounds-well_formed-count t c = let i = tlv-is _ _ _ _ _ (sym c.in-Tlv.ensures) in omega (arith, i)

pub slice_bounds-well_formed-start : goal.slice_bounds-well_formed-start
slice_bounds-well_formed-start t c = let i = tlv-is _ _ _ _ _ (sym c.in-Tlv.ensures) in omega (arith, i)

pub slice_bounds-well_formed-end : goal.slice_bounds-well_formed-end
slice_bounds-well_formed-end t c = let i = tlv-is _ _ _ _ _ (sym c.in-Tlv.ensures) in omega (arith, i)

pub returns-then-not-well_formed : goal.returns-then-not-well_formed
returns-then-not-well_formed t c =
    let i = tlv-is _ _ _ _ _ (sym c.in-Tlv.ensures) in
    sym (step_in _ i c.loop-at.invariant.1 c.if-tag-eq1.true c.if-not-well_formed.ensures)

pub loop-at-smaller : goal.loop-at-smaller
loop-at-smaller t c = let i = tlv-is _ _ _ _ _ (sym c.in-Tlv.ensures) in omega (arith, i)

pub loop-at-preserved : goal.loop-at-preserved
loop-at-preserved t c =
    let i = tlv-is _ _ _ _ _ (sym c.in-Tlv.ensures) in (
      i.within,
      elim c.else-tag-eq1.branch [
        | else-tag-eq1-via-then-tag-eq1+else-not-well_formed w ↦ step_in _ i c.loop-at.invariant.1 w.if-tag-eq1.true w.if-not-well_formed.ensures
        | else-tag-eq1-via-else-tag-eq1 w ↦ step-over _ i c.loop-at.invariant.1 w.if-tag-eq1.false
      ],
    )

pub returns : goal.returns
returns t c = sym (c.loop-at.invariant.1 ∙ all_end (inner c.args.levels) _ _ (head_end _ _ c.loop-at-test.false))
