-- One entry more in each column.
use Rattle.response_reader.proofs.NamingLaws.{row_next}
use Rattle.response_reader.proofs.readings.Columns.push.Goals as goal

pub returns-clause-more : goal.returns-clause-more
returns-clause-more c ps e = row_next ps _ e c.requires
