use Rattle.std.proofs.Common.{◌≡◌, ℕ, ◌+◌, ◌-◌, ◌≤◌, ◌∙◌, refl, arith, rules, length}
use lib.Seq.{paste, paste-zero}
use Rattle.tlv.proofs.WriteLaws.{paste_over, wrote_paste}
use Rattle.tlv.proofs.writer.put_long.Goals as goal
use Rattle.tlv.proofs.writer.put_long.Goals.{After-loop-i, else-loop-i-test, then-loop-i-test+else-last-i-gt16}

pub loop-i-init : goal.loop-i-init
loop-i-init c = (search rules, paste-zero _ c.args.at c.args.src.now)

pub loop-i-preserved : goal.loop-i-preserved
loop-i-preserved c =
    let i = c.loop-i.i in
    (omega arith, paste_over _ _ _ i i 16 refl (omega arith) (omega arith) (omega arith) (omega arith) c.loop-i.invariant.1 c.put_block.ensures)

pub returns : goal.returns
returns c =
    let out = c.args.out.now in
    let at = c.args.at in
    let src = c.args.src.now in
    let last = length src - 16 in
    let written = c.put_block-2.ensures in
    -- the loop has come to one of the last 16 places
    let so_far : (j : ℕ) × (last ≤ j) × (j ≤ last + 16) × (c.loop-i-test.out ≡ paste out at src j) =
    elim c.loop-i-test.branch [
      | else-loop-i-test w ↦ (c.loop-i.i, omega arith, omega arith, w.out-is ∙ c.loop-i.invariant.1)
      | then-loop-i-test+else-last-i-gt16 w ↦ (
        c.loop-i.i + 16,
        omega arith,
        omega arith,
        w.out-is
            ∙ paste_over _ _ _ c.loop-i.i c.loop-i.i 16 refl (omega arith) (omega arith) (omega arith) (omega arith) c.loop-i.invariant.1 w.put_block.ensures,
      )
    ] in
    wrote_paste _ _ _ (last + 16) (omega arith) (omega (arith, written.next)) (omega arith)
    (paste_over _ _ _ so_far.0 last 16 refl (omega arith) (omega arith) (omega arith) (omega arith) so_far.3 written)
