-- The signed part's place and length: after a refusal nothing has changed.
use Rattle.response_reader.proofs.SignedLaws.{no_response, response_with}
use Rattle.token.proofs.ResponseLaws.{point_refused, point_ordered, point_gave}
use Rattle.token.proofs.responses.uaf_signed_part.Goals as goal

pub len-requires : goal.len-requires
len-requires c = point_ordered _ (response_with _ c.shape_of.ensures c.in-Some.is).1

pub returns-in-None : goal.returns-in-None
returns-in-None c = rw c.from.ensures (point_refused _ _ _ (no_response _ c.shape_of.ensures c.in-None.is))

pub returns-in-Some : goal.returns-in-Some
returns-in-Some c =
    let w = response_with _ c.shape_of.ensures c.in-Some.is in
    rw c.len.ensures (point_gave _ _ _ w.0 w.1)
