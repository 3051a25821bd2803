-- Each byte is the one that stands there.
use Rattle.std.proofs.Common.{rules}
use Rattle.sha256.proofs.BufferLaws.{made}
use Rattle.sha256.proofs.message.joined.Goals as goal

pub returns : goal.returns
returns c = made _ _ _ (λ i y q k. search rules) 64 _ c.from_fn.ensures.items
