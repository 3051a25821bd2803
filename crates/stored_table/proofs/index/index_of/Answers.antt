use borrow.Author.Rules.{rules}
use Rattle.stored_table.proofs.LoadLaws.{Loaded, loaded_within, loaded_are, loading, load-end, load-bad, load_full, load-more}
use Rattle.stored_table.proofs.index.index_of.Goals as goal
use Rattle.stored_table.proofs.index.index_of.Goals.{After-loop-at}

pub loop-at-init : goal.loop-at-init
loop-at-init c = loading _ _ (search rules)

pub returns-then-len-eq-MAX_RECORDS : goal.returns-then-len-eq-MAX_RECORDS
returns-then-len-eq-MAX_RECORDS c = load_full c.loop-at.invariant c.loop-at-test.true c.if-len-eq-MAX_RECORDS.true

pub returns-then-table-end : goal.returns-then-table-end
returns-then-table-end c =
    load-bad c.loop-at.invariant c.loop-at-test.true c.after_record-end.ensures c.if-table-end.true

pub loop-at-preserved : goal.loop-at-preserved
loop-at-preserved c =
    load-more c.loop-at.invariant c.loop-at-test.true c.after_record-end.ensures c.if-len-eq-MAX_RECORDS.false c.if-table-end.false

-- all are read, and they are a table if their rows obey the rules
loaded : (c : After-loop-at) → let l = c.loop-at in
    Loaded c.args.table.now l.places l.len
loaded c = load-end c.loop-at.invariant c.type_inv.table c.loop-at-test.false

pub obeys-requires : goal.obeys-requires
obeys-requires c = loaded_within (loaded (goal.at.obeys-requires c).After-loop-at)

pub returns : goal.returns
returns c = rw c.then_some.ensures (loaded_are (loaded (goal.at.returns c).After-loop-at) _ c.obeys.ensures)
