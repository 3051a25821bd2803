-- After each turn the KeyIDs of the pairs up to the place reached are placed.
use Rattle.response_reader.proofs.NameLaws.{Keyed}
use Rattle.response_reader.proofs.names.keys_from.Given as goal

abbrev pub invariant-loop-len : goal.invariant-loop-len
invariant-loop-len l = Keyed l.s l.from l.places l.len l.place
