-- A header, and the index.
use Rattle.tlv.proofs.WriteLaws.{then_value}
use Rattle.command_writer.proofs.writers.OpenSettingsCommand.put.Goals as goal

pub returns : goal.returns
returns c = rw c.requires.0 (then_value _ c.put_header-a.ensures c.put_tlv.ensures)
