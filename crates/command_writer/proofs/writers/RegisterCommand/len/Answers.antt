-- What each field takes, with the header and the index.
use Rattle.command_writer.proofs.WriterLaws.{register_counts}
use Rattle.command_writer.proofs.writers.RegisterCommand.len.Goals as goal

pub returns : goal.returns
returns c =
    register_counts c.args.self.now c.opening_len.ensures.0 c.one_len.ensures.0 c.one_len-2.ensures.0 c.type_len.ensures.0 c.one_len-3.ensures.0
    c.len.ensures.0
