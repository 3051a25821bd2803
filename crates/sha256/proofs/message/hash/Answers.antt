-- The first part's whole blocks, then all that is left.
use Rattle.sha256.proofs.PartLaws.{hash_is}
use Rattle.sha256.proofs.message.hash.Goals as goal

pub returns : goal.returns
returns c =
    hash_is _ _ _ c.args.a.now c.args.b.now _ c.initial.ensures c.blocks-s.ensures
    c.across.ensures c.digest_of.ensures
