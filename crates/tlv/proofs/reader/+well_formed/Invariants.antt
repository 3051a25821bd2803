-- After each turn the TLVs up to the place reached are well formed; a composite's value is one level deeper.
use Rattle.std.proofs.Common.{◌≡◌, ◌-◌, ◌≤◌, length, drop}
use Rattle.model.specs.Lists.{all}
use Rattle.model.specs.Tlv.{tlvs, is_run, well_formed}
use Rattle.tlv.proofs.HeadLaws.{inner}
use Rattle.tlv.proofs.reader.+well_formed.Given as goal

abbrev pub decreases-well_formed : goal.decreases-well_formed
decreases-well_formed l = l.levels

abbrev pub invariant-loop-at : goal.invariant-loop-at
invariant-loop-at l = (l.at ≤ length l.s) × (well_formed l.levels l.s ≡ is_run (all (inner l.levels)) (tlvs (drop l.at l.s)))

abbrev pub decreases-loop-at : goal.decreases-loop-at
decreases-loop-at l = length l.s - l.at
