-- What every call, completion and reading gives, refusal by refusal: together these determine it for every input.
-- Assumes nothing.
use mathlib.Core.Path.{◌≡◌, refl}
use mathlib.Core.Bool.{true, false}
use mathlib.Core.List.{List}
use mathlib.Core.Logic.{◌⊎◌, inl, inr}
use mathlib.Core.Option.{none, some, get_or}
use Prim.Native.Nat.{ℕ, ◌≤◌, ◌<◌}
use native.Mathlib.Omega.{arith}
use lib.ListN.{length, take, drop, length-append, length-drop}
use lib.Seq.{take-append_seam, drop-append_seam}
use lib.Dec.{ltb}
use borrow.Author.Tests.{lt-ltb, le-ltb, ltb-false}
use Rattle.model.specs.Tlv.{Bytes, num, Kind, kind_of}
use Rattle.model.specs.Records.{Table, encode}
use Rattle.model.specs.Commands.{Call, Given, Result, refused, gave, judge, lent_ok, table_of, refusals, Effect, perform, outcome, bytes_of, over, Outputs, outputs}
use Rattle.model.specs.Complete.{Completion, is_draft, completion_ok, completed, complete, output_of}
use Rattle.model.specs.Reader.{is_response, signed_part, field_parts, read_response}
use Rattle.model.proofs.Basics.{split, or_left, judged, impossible}
use Rattle.model.proofs.StoredForm.{length-encode}
use Rattle.model.proofs.Kept.{kept}
use Rattle.model.proofs.CommandWrites.{answer-fits}
use Rattle.model.proofs.CompletionWrites.{completed-fits}

-- ---- calls (no table output is none too short: 6912 stands in for its length)

module _ (c : Call) (g : Given) where
  pub short-output : (c.output < 4096) ⊎ (get_or c.table_output 6912 < 6912) → outcome c g ≡ refused 1
  unfolding outcome refusals judge
  short-output (inl h) = rw (lt-ltb _ _ h)
  short-output (inr h) = split (ltb c.output 4096) (λ e. rw e) (λ e. rw (e, lt-ltb _ _ h))

  module _ (room : 4096 ≤ c.output) (table_room : 6912 ≤ get_or c.table_output 6912) where
    pub no_table : table_of g ≡ none → outcome c g ≡ refused 2
    unfolding outcome refusals judge
    no_table e = rw (le-ltb _ _ room, le-ltb _ _ table_room, e)

    module _ (t : Table) (read : table_of g ≡ some t) where
      pub no-command : kind_of c.command ≡ none → outcome c g ≡ refused 3
      unfolding outcome refusals judge
      no-command e = rw (le-ltb _ _ room, le-ltb _ _ table_room, read, e)

      module _ (k : Kind) (named : kind_of c.command ≡ some k) where
        pub wrongly-lent : lent_ok k c.lent ≡ false → outcome c g ≡ refused 4
        unfolding outcome refusals judge
        wrongly-lent e = rw (le-ltb _ _ room, le-ltb _ _ table_room, read, named, e)

        pub performs : lent_ok k c.lent ≡ true → outcome c g ≡ gave (perform k c t)
        unfolding outcome refusals judge
        performs e = rw (le-ltb _ _ room, le-ltb _ _ table_room, read, named, e)

-- ---- the outputs of a call

pub refused-outputs : (n : ℕ) (o : Outputs) → outputs (refused n) o ≡ o
unfolding outputs
refused-outputs n o = refl

-- an output after s was written into it
pub record Over (s before after : List ℕ) : Type 0 where
  pub size : length after ≡ length before
  pub front : take (length s) after ≡ s
  pub rest : drop (length s) after ≡ drop (length s) before

pub is-over : (s before : List ℕ) → length s ≤ length before → Over s before (over s before)
is-over s before h =
    record {
      size = simp (length-append, length-drop) (omega arith);
      front = take-append_seam s _;
      rest = drop-append_seam s _;
    }

-- an output of which a call is not refused takes every answer
long_output : (c : Call) (g : Given) (e : Effect) → outcome c g ≡ gave e → 4096 ≤ c.output
unfolding outcome refusals
long_output c g e =
    judged (λ r. r ≡ gave e → 4096 ≤ c.output) (refusals c g) refused _
    (λ n p. impossible cc)
    (λ p q. ltb-false _ _ (or_left _ _ p.0))

pub response-over : (c : Call) (g : Given) (e : Effect) (o : Outputs) → outcome c g ≡ gave e → c.output ≤ length o.response
    → Over (bytes_of e.answer) o.response (outputs (outcome c g) o).response
unfolding outputs
response-over c g e o p h = rw p (is-over _ _ (omega (arith, long_output c g e p, answer-fits c g e p)))

pub table-over : (c : Call) (g : Given) (e : Effect) (o : Outputs) (out : List ℕ) → outcome c g ≡ gave e → o.table ≡ some out
    → 6912 ≤ length out
    → ((outputs (outcome c g) o).table ≡ some (over (encode e.left) out)) × Over (encode e.left) out (over (encode e.left) out)
unfolding outputs
table-over c g e o out p t h = (rw (p, t), is-over _ _ (omega (arith, length-encode _ (kept c g e p))))

-- without a table output none is written
pub no_table_over : (c : Call) (g : Given) (o : Outputs) → o.table ≡ none → (outputs (outcome c g) o).table ≡ none
unfolding outputs
no_table_over c g o t = go (outcome c g)
  where
    go : (r : Result Effect) → (outputs r o).table ≡ none
    go (refused n) = t
    go (gave e) = rw t

-- ---- completions

module _ (c : Completion) where
  pub complete-short : c.output < 4096 → complete c ≡ refused 1
  unfolding complete judge
  complete-short h = rw (lt-ltb _ _ h)

  module _ (room : 4096 ≤ c.output) where
    pub no-draft : is_draft c.kind c.draft ≡ false → complete c ≡ refused 5
    unfolding complete judge
    no-draft e = rw (le-ltb _ _ room, e)

    module _ (d : is_draft c.kind c.draft ≡ true) where
      pub wrongly-completed : completion_ok c ≡ false → complete c ≡ refused 4
      unfolding complete judge
      wrongly-completed e = rw (le-ltb _ _ room, d, e)

      pub completes : completion_ok c ≡ true → complete c ≡ gave (completed c)
      unfolding complete judge
      completes e = rw (le-ltb _ _ room, d, e)

-- the response output of a completion: as it was after a refusal, else the response and the rest as it was
pub refused-completion : (n : ℕ) (out : List ℕ) → output_of (refused n) out ≡ out
refused-completion n out = refl

pub completion-over : (c : Completion) (s out : List ℕ) → Bytes c.draft → complete c ≡ gave s → 4096 ≤ length out
    → Over s out (output_of (complete c) out)
completion-over c s out b e h = rw e (is-over s out (omega (arith, completed-fits c s b e)))

-- ---- readings

module _ (s : List ℕ) where
  pub not_read : is_response s ≡ false → read_response s ≡ refused 5
  unfolding read_response judge
  not_read e = rw e

  pub reads-response : is_response s ≡ true
      → read_response s
      ≡ gave
      (record { signed = signed_part s; tag = num (take 2 s); status = num (take 2 (drop 8 s)); fields = field_parts s })
  unfolding read_response judge
  reads-response e = rw e
