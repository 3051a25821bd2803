-- The header and the index.
use Rattle.command_writer.proofs.WriterLaws.{settings_counts}
use Rattle.command_writer.proofs.writers.OpenSettingsCommand.len.Goals as goal

pub returns : goal.returns
returns c = settings_counts
