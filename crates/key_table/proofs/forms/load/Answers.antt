-- The records of the table that is read, or none.
use Rattle.key_table.specs.Forms.{loading}
use Rattle.key_table.proofs.forms.load.Goals as goal

pub returns-in-None : goal.returns-in-None
unfolding loading
returns-in-None c = rw c.in-None.ensures

pub returns-in-Some : goal.returns-in-Some
unfolding loading
returns-in-Some c = rw (c.in-Some.ensures, c.values_at.ensures)
