-- A value that fits takes its header and its bytes, at most 8,192 of them.
use mathlib.Core.Path.{sym, ◌∙◌}
use native.Mathlib.Omega.{arith}
use Rattle.command_writer.proofs.LengthLaws.{one-fits, one-not, slot_most}
use Rattle.command_writer.proofs.lengths.one_len.Goals as goal

pub returns-then-not-slot_fits : goal.returns-then-not-slot_fits
returns-then-not-slot_fits c = (sym (one-not _ _ (sym c.slot_fits.ensures ∙ c.if-not-slot_fits.true)), omega arith)

pub returns : goal.returns
returns c =
    let a = c.args in
    let e = sym c.slot_fits.ensures ∙ c.if-not-slot_fits.false in
    (sym (one-fits _ _ e), omega (arith, slot_most a.slot a.v.now e))
