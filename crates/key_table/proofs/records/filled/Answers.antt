-- The bytes over the front of as many zeros.
use mathlib.Core.Path.{◌∙◌}
use Rattle.tlv.proofs.WriteLaws.{front}
use Rattle.tlv.proofs.FirstLaws.{firsts-over}
use Rattle.key_table.proofs.LoadLaws.{firsts_none}
use Rattle.key_table.proofs.records.filled.Goals as goal

pub returns : goal.returns
returns g c =
    let n = g.row.N in
    let over = firsts-over 0 n c.args.s.now c.requires in
    (front c.put_bytes.ensures).1 ∙ rw (firsts_none n) at over
