use Rattle.std.proofs.Common.{◌<◌, length, sym, ◌∙◌, rules}
use Rattle.sha256.proofs.BlockLaws.{blocks-next, blocks_done}
use Rattle.sha256.proofs.block.blocks.Goals as goal

pub loop-block-preserved : goal.loop-block-preserved
loop-block-preserved c =
    let n = c.in-Some.ensures.steps in
    let inv = c.loop-block.invariant in
    (n.0 ∙ inv.0, inv.1 ∙ blocks-next _ _ _ c.in-Some.block.now _ n.1.0 (n.1.1 ∙ inv.0) c.compress-s.ensures)

pub returns : goal.returns
returns c =
    let few : length c.loop-block.block-iterator.rest.now < 64 = search rules in
    sym (c.loop-block.invariant.1 ∙ blocks_done _ _ few)
