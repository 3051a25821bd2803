-- The header.
use Rattle.command_writer.proofs.WriterLaws.{info_counts}
use Rattle.command_writer.proofs.writers.GetInfoCommand.len.Goals as goal

pub returns : goal.returns
returns c = info_counts
