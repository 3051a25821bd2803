-- Each number of the row is the number at its place in the stretch.
use mathlib.Core.Path.{refl}
use native.Mathlib.Omega.{arith}
use Rattle.tlv.specs.Rows.{mark}
use Rattle.tlv.proofs.NumberLaws.{number_in}
use Rattle.tlv.proofs.rows.mark_of.Goals as goal

pub returns : goal.returns
unfolding mark
returns c =
    let p = c.args.p in
    rw (
      number_in 4 0 32 p (omega arith) (omega arith) c.get32.ensures,
      number_in 4 4 32 p (omega arith) refl c.get32-2.ensures,
      number_in 4 8 32 p (omega arith) refl c.get32-3.ensures,
      number_in 4 12 32 p (omega arith) refl c.get32-4.ensures,
      number_in 4 16 32 p (omega arith) refl c.get32-5.ensures,
      number_in 4 20 32 p (omega arith) refl c.get32-6.ensures,
      number_in 4 24 32 p (omega arith) refl c.get32-7.ensures,
      number_in 4 28 32 p (omega arith) refl c.get32-8.ensures,
    )
