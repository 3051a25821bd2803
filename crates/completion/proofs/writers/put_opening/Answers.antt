-- The start of the response and two headers are what stands before the draft: 18 bytes.
use Rattle.completion.proofs.WriterLaws.{wrote-opening}
use Rattle.completion.proofs.writers.put_opening.Goals as goal

pub returns : goal.returns
returns c =
    wrote-opening _ _ _ c.put_start-a1.ensures c.put_header-a2.ensures c.put_header.ensures
