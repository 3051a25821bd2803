-- At each turn a pair stands at the place reached, and there is room for its two rows.
use mathlib.Core.Path.{refl}
use native.Mathlib.Omega.{arith}
use Rattle.response_reader.proofs.NamingLaws.{same_again, naming_start, naming_turn, naming_next, naming_all}
use Rattle.response_reader.proofs.readings.name_fields.Goals as goal

pub loop-at-init : goal.loop-at-init
loop-at-init c = record {
  same = record { tags = refl; places = refl; lengths = refl };
  naming = naming_start _ c.requires.form c.requires.begun;
}

pub get16-n-requires : goal.get16-n-requires
get16-n-requires c = omega (arith, naming_turn c.loop-at.invariant.naming c.loop-at-test.true)

pub push-requires : goal.push-requires
push-requires c = omega (arith, naming_turn c.loop-at.invariant.naming c.loop-at-test.true)

pub push-requires-in-loop-at : goal.push-requires-in-loop-at
push-requires-in-loop-at c = omega (arith, naming_turn c.loop-at.invariant.naming c.loop-at-test.true)

pub get16-requires : goal.get16-requires
get16-requires c = omega (arith, naming_turn c.loop-at.invariant.naming c.loop-at-test.true)

pub loop-at-preserved : goal.loop-at-preserved
loop-at-preserved c =
    let i = c.loop-at.invariant in
    record {
      same = same_again i.same (same_again c.push.ensures.same c.push-in-loop-at.ensures.same);
      naming =
          naming_next i.naming c.loop-at-test.true c.get16-n.ensures c.get16.ensures (omega arith)
          (c.push-in-loop-at.ensures.more _ (c.push.ensures.more _ i.naming.rows));
    }

pub returns-clause-listed : goal.returns-clause-listed
returns-clause-listed c = naming_all c.loop-at.invariant.naming c.loop-at-test.false
