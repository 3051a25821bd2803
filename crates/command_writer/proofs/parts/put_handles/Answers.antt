use mathlib.Core.Path.{sym, ◌∙◌}
use native.Mathlib.Omega.{arith}
use lib.ListN.{length}
use Rattle.std.proofs.lemmas.List.{length_push}
use Rattle.command_writer.proofs.PartLaws.{no_handles, handle_rest, handle_whole, one_handle}
use Rattle.command_writer.proofs.parts.put_handles.Goals as goal

pub loop-handle-init : goal.loop-handle-init
loop-handle-init c = record { size = cc; rest = cc; passed = omega arith; wrote = no_handles _ _ _ (omega (arith, c.requires)) }

pub loop-handle-preserved : goal.loop-handle-preserved
loop-handle-preserved c =
    let n = length c.loop-handle.yielded in
    let hs = c.args.handles.now in
    let k = c.loop-handle.invariant in
    let t = c.in-Some.ensures.steps in
    let e = sym t.1.0 ∙ k.rest in
    let l = t.1.1 ∙ k.size in
    rw (length_push c.loop-handle.yielded c.in-Some.handle)
    (record {
      size = t.0 ∙ k.size;
      rest = handle_rest n hs _ _ e l;
      passed = handle_whole n hs _ _ e l;
      wrote = one_handle n hs _ _ e l k.wrote c.put_tlv-end.ensures;
    })
