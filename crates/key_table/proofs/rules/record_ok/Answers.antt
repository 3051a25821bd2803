-- The types leave only the name to test.
use mathlib.Core.Path.{sym, ◌∙◌}
use native.Mathlib.Omega.{arith}
use borrow.Author.Tests.{lt-leb}
use Rattle.key_table.proofs.RuleLaws.{Typed, name_long, name-within}
use Rattle.key_table.proofs.rules.record_ok.Goals as goal
use Rattle.key_table.proofs.rules.record_ok.Goals.{Start}

-- the record's arrays and its counter are what their types say
typed : (c : Start) → Typed c.args.r
typed c =
    let g = c.well_formed.0.1.1 in
    record {
      key-id = g.0.1.0.1;
      mixed = g.1.0.1.0.1;
      name = g.1.1.0.1.0.1;
      count = omega (arith, g.1.1.1.1.0.1);
    }

pub returns-then-r-le128 : goal.returns-then-r-le128
returns-then-r-le128 c =
    let n = c.name.ensures in
    rw n at c.is_username.ensures ∙ sym (name-within _ (typed (goal.at.returns-then-r-le128 c).Start) c.if-r-le128.true)

pub returns-else-r-le128 : goal.returns-else-r-le128
returns-else-r-le128 c =
    let long = c.if-r-le128.false in
    rw (lt-leb c.args.r.name_len 128 (omega arith)) (sym (name_long _ (typed (goal.at.returns-else-r-le128 c).Start) (omega arith)))
