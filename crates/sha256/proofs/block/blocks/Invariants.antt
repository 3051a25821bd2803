-- Block after block: what is still to come gives what the whole gives.
use Rattle.std.proofs.Common.{◌≡◌, ◌/◌, length}
use Rattle.model.specs.Sha256.{blocks}
use Rattle.sha256.specs.Views.{view}
use Rattle.sha256.proofs.block.blocks.Given as goal

abbrev pub invariant-loop-block : goal.invariant-loop-block
invariant-loop-block l =
    let rest = l.block-iterator.rest.now in
    (l.block-iterator.size ≡ 64) × (blocks (length l.m / 64) (view l.initial.s) l.m ≡ blocks (length rest / 64) (view l.s) rest)
