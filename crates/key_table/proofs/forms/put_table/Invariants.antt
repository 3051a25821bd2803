-- The records before this one are written, in at most 216 bytes each.
use mathlib.Core.List.{map}
use Prim.Native.Nat.{◌*◌, ◌≤◌}
use lib.ListN.{take}
use Rattle.model.specs.Records.{encode}
use Rattle.tlv.specs.Writing.{Wrote}
use Rattle.key_table.specs.Views.{view_record}
use Rattle.key_table.proofs.forms.put_table.Given as goal

abbrev pub invariant-loop-record : goal.invariant-loop-record
invariant-loop-record l =
    (l.at ≤ 216 * l.record-index)
    × Wrote l.initial.out 0 (encode (map view_record (take l.record-index l.record-items))) l.at l.out l.at
