-- After i turns the first i handles are written, and what is left begins with the next.
use mathlib.Core.Path.{◌≡◌}
use Prim.Native.Nat.{◌*◌, ◌≤◌}
use lib.ListN.{length, drop}
use Rattle.model.specs.Tlv.{bytes}
use Rattle.tlv.specs.Writing.{Wrote}
use Rattle.command_writer.specs.Parts.{handle_tlvs}
use Rattle.command_writer.proofs.parts.put_handles.Given as goal

abbrev pub invariant-loop-handle : goal.invariant-loop-handle
invariant-loop-handle l =
    let i = length l.yielded in
    record {
      size : l.handle-iterator.size ≡ 32;
      rest : l.handle-iterator.rest.now ≡ drop (32 * i) l.handles;
      passed : 32 * i ≤ length l.handles;
      wrote : Wrote l.initial.out l.at (bytes (handle_tlvs i l.handles)) (36 * i) l.out l.end;
    }
