-- The mixed token stands as often among the rows of mixed tokens as it has records.
use native.Mathlib.Omega.{arith}
use Rattle.stored_table.specs.Stored.{mixed_at, table_in}
use Rattle.stored_table.proofs.IndexLaws.{all_stand, stand_within, mixed-are, times-own}
use Rattle.stored_table.proofs.table.StoredTable.own_count.Goals as goal

pub times_in-requires : goal.times_in-requires
times_in-requires c = stand_within _ _ mixed_at (omega arith) (all_stand c.self.invariant)

pub returns : goal.returns
returns c =
    rw (← c.self.view_is) (rw (mixed-are c.self.invariant, times-own c.args.mixed.now (table_in c.self.inside.bytes.now)) at c.times_in.ensures)
