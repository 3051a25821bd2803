-- What the writers' entries wrote, over their promises: a command with the values that were given, which `uaf_command` takes; and the form of every
-- accepted command, which it answers like the command itself.
-- Assumes nothing.
use mathlib.Core.Path.{◌≡◌, refl, ap, ◌∙◌}
use mathlib.Core.Bool.{false}
use mathlib.Core.List.{List}
use mathlib.Core.Option.{Option, some}
use Prim.Native.Nat.{ℕ, ◌≤◌}
use native.Mathlib.Omega.{arith}
use lib.ListN.{length, take, drop}
use lib.Seq.{take_at, drop_at}
use Rattle.model.specs.Tlv.{Bytes, Kind, kind_of, broken}
use Rattle.model.specs.Commands.{Lent, Call, Given, refused, gave, Effect, outcome, over}
use Rattle.model.specs.Writer.{Wanted, wanted_kind, wanted_values, write_command, form_of}
use Rattle.model.proofs.Kept.{status_of}
use Rattle.model.proofs.WriterLaws.{Written, written, runs, runs_valid, Ways, breaking, no_room, writing, ways}
use Rattle.model.proofs.WriterForms.{has_form, InRange, form_in_range}
use Rattle.params.specs.Lent.{call}
use Rattle.token.specs.Returned.{Returned, returned}
use Rattle.token.specs.Written.{ReturnedBytes, wrote, returned_bytes}

-- the bytes that an entry says it wrote
abbrev pub told : ReturnedBytes → List ℕ
told r = take r.size r.output

-- the entry of a writer, lent w and b, returned r: 6 or 1, and nothing has changed; or 0, and the bytes told are the command, the rest of the output as it was
pub data Returns (w : Wanted) (b r : ReturnedBytes) : Type 0 where
  refuses_6 : r ≡ wrote 6 b.size b.output → Returns w b r
  refuses_1 : r ≡ wrote 1 b.size b.output → Returns w b r
  writes : r.code ≡ 0 → Written (wanted_kind w) (wanted_values w) (told r) → drop r.size r.output ≡ drop r.size b.output
      → Returns w b r

returns_command : (w : Wanted) (b r : ReturnedBytes) (s : List ℕ) → write_command w (length b.output) ≡ gave s
    → r ≡ returned_bytes (gave s) b → Returns w b r
unfolding returned_bytes
returns_command w b r s p e =
    let t : told (returned_bytes (gave s) b) ≡ s = take_at s _ (length s) refl in
    rw e
    (writes refl (rw t (written (wanted_kind w) (wanted_values w) (length b.output) s p)) (drop_at s _ (length s) refl))

pub entry_returns : (w : Wanted) (b r : ReturnedBytes) → r ≡ returned_bytes (write_command w (length b.output)) b → Returns w b r
unfolding returned_bytes
entry_returns w b r e = go (ways (wanted_kind w) (wanted_values w) (length b.output))
  where
    go : Ways (wanted_kind w) (wanted_values w) (length b.output) → Returns w b r
    go (breaking x p) = refuses_6 (rw p at e)
    go (no_room x h p) = refuses_1 (rw p at e)
    go (writing x h p) = returns_command w b r _ p (rw p at e)

module _ (w : Wanted) (b r : ReturnedBytes) (e : r ≡ returned_bytes (write_command w (length b.output)) b) (z : r.code ≡ 0) where
  pub entry_writes : Written (wanted_kind w) (wanted_values w) (told r)
  entry_writes = go (entry_returns w b r e)
    where
      go : Returns w b r → Written (wanted_kind w) (wanted_values w) (told r)
      go (refuses_6 p) = let n : r.code ≡ 6 = ap (λ (x : ReturnedBytes). x.code) p in absurd (omega arith)
      go (refuses_1 p) = let n : r.code ≡ 1 = ap (λ (x : ReturnedBytes). x.code) p in absurd (omega arith)
      go (writes x p d) = p

  -- a call with it is not refused with 3, nor answered with 0x08, whatever is lent and whatever the table
  module _ (c : Call) (g : Given) (same : c.command ≡ told r) where
    pub written-runs : outcome c g ≡ refused 3 → ⊥
    written-runs = runs (wanted_kind w) c g (ap kind_of same ∙ entry_writes.names)

    pub written-valid : (f : Effect) → outcome c g ≡ gave f → status_of f.answer ≡ 0x08 → ⊥
    written-valid =
        runs_valid (wanted_kind w) c g (ap kind_of same ∙ entry_writes.names) (ap (broken (wanted_kind w)) same ∙ entry_writes.breaks_none)

-- ---- any command that breaks no rule

-- lent these fields, the entry of its kind writes its form into any output that is long enough
pub record WritesForm (k : Kind) (s : List ℕ) : Type 0 where
  pub wanted : Wanted
  pub kind : wanted_kind wanted ≡ k
  pub form : (b : ReturnedBytes) → length (form_of k s) ≤ length b.output
      → returned_bytes (write_command wanted (length b.output)) b ≡ wrote 0 (length (form_of k s)) (over (form_of k s) b.output)

pub form_by_entry : (k : Kind) (s : List ℕ) → Bytes s → broken k s ≡ false → WritesForm k s
unfolding returned_bytes
form_by_entry k s h f =
    let i : InRange k (form_of k s) = form_in_range k s h f in
    record { wanted = i.wanted; kind = i.kind; form = λ b n. rw (i.writes_it (length b.output) n) }

-- and `uaf_command` returns for the form what it returns for the command
pub form_returns : (k : Kind) (s : List ℕ) → kind_of s ≡ some k → broken k s ≡ false
    → (l : Lent) (n : ℕ) (o : Option ℕ) (g : Given) (r : Returned)
    → returned (outcome (call s l n o) g) r ≡ returned (outcome (call (form_of k s) l n o) g) r
form_returns k s e f l n o g r = ap (λ q. returned q r) ((has_form k s e f).same_effect l n o g)
