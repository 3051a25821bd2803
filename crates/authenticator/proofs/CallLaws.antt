-- Laws of a call: what its refusals leave, what it needs to write its reply, and what it gives.
-- Assumes nothing.
use mathlib.Core.Path.{◌≡◌, sym, ap, ◌∙◌}
use mathlib.Core.Bool.{Bool, true, false}
use mathlib.Core.List.{List}
use mathlib.Core.Logic.{◌⊎◌, inl, inr}
use mathlib.Core.Option.{Option, some}
use Prim.Native.Nat.{ℕ, ◌≤◌, ◌<◌}
use native.Mathlib.Omega.{arith}
use lib.Dec.{ltb}
use lib.ListN.{length}
use borrow.Author.Tests.{ltb-true, ltb-false}
use Rattle.std.specs.Prelude.{Ok, Err}
use Rattle.model.specs.Tlv as tlv
use Rattle.model.specs.Tlv.{broken}
use Rattle.model.specs.Records.{Table, max_stored, encode, decode}
use Rattle.model.specs.Commands.{Lent, least_output, short_output, stored, table_of, lent_ok, Result, refused, gave, Effect, apply, perform, Answer, bytes_of, Outputs, outputs}
use Rattle.model.proofs.Basics.{split, either, or_left, or_right}
use Rattle.model.proofs.LentLaws.{lent_rules}
use Rattle.tlv.specs.Writing.{Wrote}
use Rattle.tlv.proofs.WriteLaws.{front}
use Rattle.fields.specs.Refusals.{number}
use Rattle.fields.specs.declared.refusals.Refusal.{Refusal}
use Rattle.params.specs.Lent.{lent_of, call}
use Rattle.params.specs.Parse.{ParamsRead}
use Rattle.params.specs.declared.lent.Numbers.{Numbers}
use Rattle.params.specs.declared.parse.Params.{Params}
use Rattle.stored_table.specs.Changes.{change_of}
use Rattle.replies.specs.Replies as replies
use Rattle.replies.specs.Replies.{answer_of, challenge_len, Ready, Short}
use Rattle.replies.specs.declared.reply.Shape.{Shape}
use Rattle.replies.proofs.ReplyLaws.{draft-is, ready, short}
use Rattle.commands.specs.Callers.{mixed_for}
use Rattle.commands.specs.Decisions.{named_by, Decides}
use Rattle.commands.proofs.CallerLaws.{performed_for_caller}
use Rattle.commands.specs.declared.decision.Decision.{Decision}
use Rattle.authenticator.specs.Outcomes.{is_draft, outputs_of, Ended, ended, ends}
use Rattle.authenticator.specs.declared.outcome.Gave.{Gave}

-- what the code says of a call that is not refused
abbrev pub gives : Bool → ℕ → ℕ → Gave
gives d n m = record { draft = d; response_len = n; table_len = m }

-- ---- refusals

-- a refusal leaves both outputs as they came
pub ends-refused : {o : Result Effect} (r : Refusal) (out tab : List ℕ) → o ≡ refused (number r)
    → ended (Err r) out tab ≡ ends o (outputs_of out tab)
unfolding ends outputs
ends-refused r out tab e = rw e

-- a call ends as what it gives does
pub ends_same : {o q : Result Effect} {x : Ended} (z : Outputs) → o ≡ q → x ≡ ends q z → x ≡ ends o z
ends_same z e h = rw e h

-- an output is too short, or both are long enough
pub too_short : {b : Bool} (n m : ℕ) → b ≡ short_output n (some m) → b ≡ true → (n < least_output) ⊎ (m < max_stored)
too_short n m e h = either _ _ (sym e ∙ h) (λ k. inl (ltb-true _ _ k)) (λ k. inr (ltb-true _ _ k))

pub long_enough : {b : Bool} (n m : ℕ) → b ≡ short_output n (some m) → b ≡ false → (least_output ≤ n) × (max_stored ≤ m)
long_enough n m e h =
    let k = sym e ∙ h in
    (ltb-false _ _ (or_left _ _ k), ltb-false _ _ (or_right (ltb n least_output) _ k))

-- what is read of a stretch, a table or none, is the model's
pub read_is : (s : List ℕ) {o : Option Table} → decode s ≡ o → table_of (stored s) ≡ o
unfolding table_of
read_is s e = e

-- ---- what is asked where a command is performed

-- Register is lent a KeyID of 32 bytes
pub register-lent : {k : tlv.Kind} (l : Lent) → lent_ok k l ≡ true → k ≡ tlv.register → length l.key_id ≡ 32
register-lent l h e = (lent_rules tlv.register l (rw e at h)).key-id

-- the challenge hash of a command that breaks a rule is an empty part
pub challenge-ordered : {k : tlv.Kind} {s : List ℕ} {p : Params} → ParamsRead k s p → p.challenge_hash.start ≤ p.challenge_hash.end
challenge-ordered {k} {s} {p} r =
    split (broken k s)
    (λ e. let q = ap (λ (x : Params). x.challenge_hash) (r.if_broken e) in rw q (omega arith))
    (λ e. (r.unless_broken e).challenge-hash.inside.ordered)

-- the answer is a draft where the reply is one
draft-told : (k : tlv.Kind) (s : List ℕ) (l : Lent) (t : Table) (named : List ℕ) (x : Shape)
    → is_draft (answer_of k s l t named x) ≡ replies.is_draft x
draft-told k s l t named x = ap is_draft (draft-is k s l t named x) ∙ split (replies.is_draft x) (λ e. rw e) (λ e. rw e)

module _ {k : tlv.Kind} {s : List ℕ} {n : Numbers} {m key : List ℕ} {t : Table} {c : Params} {chosen : List ℕ} {d : Decision}
    (p : Decides k s n m key t c chosen d) (aaid metadata public_key nonce : List ℕ) where
  abbrev l : Lent
  l = lent_of aaid n metadata key public_key nonce

  module _ (h : lent_ok k l ≡ true) where
    -- the reply can be written
    pub reply-ready : Ready s l t c (named_by chosen d) d.shape
    reply-ready = ready l h p.sound

    pub reply-short : Short (challenge_len c) (length public_key) (length nonce) t (named_by chosen d) d.shape
    reply-short = short reply-ready

  -- ---- what a call gives

  abbrev answer : Answer
  answer = answer_of k s l t (named_by chosen d) d.shape

  -- a reply and a table that were written as they were decided
  pub ends-gave : m ≡ mixed_for k s n.verdict → (o : ℕ) (u : Option ℕ) {b : Bool} {len left r : ℕ} {out out' tab tab' : List ℕ} → b ≡ replies.is_draft d.shape
      → Wrote out 0 (bytes_of answer) len out' r → Wrote tab 0 (encode (apply m (change_of s key t d.change) t)) left tab' left
      → ended (Ok (gives b len left)) out' tab' ≡ ends (gave (perform k (call s l o u) t)) (outputs_of out tab)
  unfolding ends outputs
  ends-gave caller o u {b} f w v =
      let g : is_draft answer ≡ b = draft-told k s l t (named_by chosen d) d.shape ∙ sym f in
      rw (
        ← performed_for_caller k (call s l o u) t,
        ← caller,
        ← p.is aaid metadata public_key nonce,
        (front w).1,
        (front v).1,
        g,
        w.size,
        v.size,
      )
