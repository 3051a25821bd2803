-- No record, and 32 spare ones.
use Rattle.tlv.specs.Firsts.{firsts}
use Rattle.key_table.specs.Views.{table_value}
use Rattle.key_table.proofs.records.no_table.Goals as goal

pub returns : goal.returns
unfolding table_value firsts
returns c = rw c.spare-empty.ensures
