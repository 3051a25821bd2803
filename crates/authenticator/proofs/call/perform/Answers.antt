-- The reply is written from the front of its output and the table that is left from the front of the other; both are those of the decision.
use mathlib.Core.Path.{◌≡◌, refl, sym}
use native.Mathlib.Omega.{arith}
use lib.ListN.{length}
use lib.Seq.{length-take-le}
use borrow.Author.Rules.{rules}
use Rattle.authenticator.proofs.CallLaws.{register-lent, challenge-ordered, reply-ready, reply-short, ends-gave}
use Rattle.authenticator.proofs.call.perform.Goals as goal
use Rattle.authenticator.proofs.call.perform.Goals.{After-mixed_token-mixed}

pub returns : goal.returns
returns c =
    rw (← c.lent.view_is)
    (ends-gave c.decide-decision.ensures _ _ _ _ c.mixed_token-mixed.ensures _ _ c.is_draft.ensures (rw (← c.lent.view_is) at c.write_reply.ensures)
    c.put_left-table_len.ensures)

pub mixed_token-mixed-requires : goal.mixed_token-mixed-requires
mixed_token-mixed-requires c = c.params_of-params.ensures.0

-- the mixed token has 32 bytes, by its type
mixed-size : (c : After-mixed_token-mixed) → 32 ≡ length c.mixed_token-mixed.result
mixed-size c = search rules

pub decide-decision-requires : goal.decide-decision-requires
decide-decision-requires c =
    record {
      params_read = c.params_of-params.ensures;
      mixed_len = λ e. (search rules, register-lent _ (rw (← c.lent.view_is) at c.requires.lent_value) e);
      chosen_len = refl;
    }

pub reply_len-response_len-requires : goal.reply_len-response_len-requires
reply_len-response_len-requires c =
    let k = c.decide-decision.ensures in
    let lent = rw (← c.lent.view_is) at c.requires.lent_value in
    (challenge-ordered c.params_of-params.ensures.0, reply-short k _ _ _ _ lent)

pub write_reply-requires : goal.write_reply-requires
write_reply-requires c =
    let s = c.requires in
    let k = c.decide-decision.ensures in
    let e = c.reply_len-response_len.ensures in
    let lent = rw (← c.lent.view_is) at s.lent_value in
    record {
      ready = rw (← c.lent.view_is) (reply-ready k _ _ _ _ lent);
      len_value = (rw (← c.lent.view_is) e.0, omega (arith, e.1, s.room.0));
    }

pub put_left-table_len-requires : goal.put_left-table_len-requires
put_left-table_len-requires c =
    record {
      can = c.decide-decision.ensures.can;
      max_stored_in_bounds = c.requires.room.1;
    }

pub params_of-params-requires : goal.params_of-params-requires
params_of-params-requires c = refl

pub slice_bounds-named-end : goal.slice_bounds-named-end
slice_bounds-named-end c = sym (length-take-le _ _ c.decide-decision.ensures.within)

pub slice_bounds-put_left-end : goal.slice_bounds-put_left-end
slice_bounds-put_left-end c = mixed-size (goal.at.slice_bounds-put_left-end c).After-mixed_token-mixed
