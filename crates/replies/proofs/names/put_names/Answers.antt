-- The header says four bytes less than len, and the status and the pairs take as many.
use Rattle.replies.proofs.WriterLaws.{wrote-names}
use Rattle.replies.proofs.names.put_names.Goals as goal

pub returns : goal.returns
returns c =
    wrote-names _ c.requires.len_value.0 c.put_start-a.ensures c.put_pairs.ensures
