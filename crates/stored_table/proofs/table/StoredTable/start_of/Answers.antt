-- Where the record starts is as many bytes on as those before it take.
use borrow.Author.Rules.{rules}
use Rattle.stored_table.proofs.IndexLaws.{place_is}
use Rattle.stored_table.proofs.LeftLaws.{end_is}
use Rattle.stored_table.proofs.table.StoredTable.start_of.Goals as goal

pub returns : goal.returns
returns c = rw (← c.self.view_is) search (rules, place_is c.self.invariant, end_is c.self.invariant)
