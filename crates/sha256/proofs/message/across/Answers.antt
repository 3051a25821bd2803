-- What is left is less than a block, or the block across the seam is compressed.
use Rattle.sha256.proofs.PartLaws.{across_is}
use Rattle.sha256.proofs.message.across.Goals as goal

pub returns : goal.returns
returns c =
    across_is _ _ _ _ c.args.x.now c.args.b.now _ c.requires.0 c.if-b-room.false c.joined-d.ensures
    c.compress-h.ensures c.tail.ensures
