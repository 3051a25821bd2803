-- A header alone, which says that nothing follows.
use Rattle.model.specs.Tlv.{le, bytes}
use Rattle.command_writer.proofs.writers.GetInfoCommand.put.Goals as goal

pub returns : goal.returns
unfolding bytes le
returns c = rw c.requires.0 c.put_header.ensures
