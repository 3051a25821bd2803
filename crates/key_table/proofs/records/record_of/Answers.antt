-- Each array holds its field; a KeyID and a mixed token fill theirs.
use mathlib.Core.Path.{◌≡◌, ◌∙◌}
use mathlib.Core.List.{List}
use Prim.Native.Nat.{ℕ}
use native.Mathlib.Omega.{arith}
use lib.ListN.{length}
use lib.Seq.{take_all}
use Rattle.tlv.specs.Firsts.{firsts}
use Rattle.tlv.proofs.FirstLaws.{firsts-take}
use Rattle.key_table.proofs.records.record_of.Goals as goal

full : (s : List ℕ) → length s ≡ 32 → firsts 0 32 s ≡ s
full s h = firsts-take 0 32 s (omega arith) ∙ take_all 32 s (omega arith)

pub returns : goal.returns
returns c =
    let k = c.filled.ensures ∙ full _ c.requires.0 in
    let m = c.filled-2.ensures ∙ full _ c.requires.1 in
    cc (k, m, c.filled-3.ensures)
