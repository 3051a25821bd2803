-- What each field takes, with the header and the index.
use Rattle.command_writer.proofs.WriterLaws.{sign_counts}
use Rattle.command_writer.proofs.writers.SignCommand.len.Goals as goal

pub returns : goal.returns
returns c =
    sign_counts c.args.self.now c.opening_len.ensures.0 c.one_len.ensures.0 c.len.ensures.0 c.one_len-2.ensures.0 c.len-2.ensures.0
    c.handles_len.ensures.0
