-- About the entries: the reader accepts exactly what is written, and completion takes exactly the drafts that are. What the
-- reader gives of it stands in ReadBack: command-read-back, draft-read-back.
-- Assumes nothing.
use mathlib.Core.Path.{◌≡◌, refl}
use mathlib.Core.Bool.{true, false, not}
use mathlib.Core.List.{List}
use mathlib.Core.Logic.{◌↔◌}
use Prim.Native.Nat.{ℕ, ◌≤◌}
use borrow.Author.Tests.{not-true}
use Rattle.model.specs.Lists.{any}
use Rattle.model.specs.Tlv.{Bytes}
use Rattle.model.specs.Layouts.{reads}
use Rattle.model.specs.Commands.{value, refused, gave, least_output}
use Rattle.model.specs.Complete.{Completion, drafts_of, is_draft, completion_ok, completed, complete}
use Rattle.model.specs.Reader.{Reading, responses, is_response, read_response, is_signed}
use Rattle.model.proofs.Basics.{split, clash, and_left, impossible}
use Rattle.model.proofs.LayoutLaws.{reads-written}
use Rattle.model.proofs.LayoutWritten.{WrittenBy, all_member, any_found, outer_tag, one_tag}
use Rattle.model.proofs.CompletionWrites.{completion_passed, draft-reads}
use Rattle.model.proofs.ReadBack.{CommandReadBack, command_read_back, CompletionReadBack, completion_read_back}
use Rattle.model.proofs.Refusals.{not_read, no-draft, completes}
use Rattle.model.proofs.DraftWitness.{Drafted, draft_witness, drafted_taken}
use Rattle.model.proofs.ResponseWitness.{Origin, by_command, by_completion, response_witness}

-- ---- the reader accepts exactly what a command or a completion writes

read-response : (s : List ℕ) (r : Reading) → read_response s ≡ gave r → is_response s ≡ true
read-response s r e =
    split (is_response s) (λ f. f)
    (λ f. let g = not_read s f in impossible cc)

completed_read : (c : Completion) (s : List ℕ) → Bytes c.draft → complete c ≡ gave s → (r : Reading) × (read_response s ≡ gave r)
unfolding is_draft
completed_read c s b e =
    let (l, i, p) = any_found (λ l. reads l c.draft) (drafts_of c.kind) (completion_passed c s e).0 in
    let f = reads-written l c.draft b p in
    let w : WrittenBy (drafts_of c.kind) l f.values c.draft =
    record { listed = i; fit = f.fit; number = f.number; written = f.written } in
    let r : CompletionReadBack c l f.values s = completion_read_back c s l f.values w e in
    (r.back.reading, r.back.read)

origin_read : (s : List ℕ) → Origin s → (r : Reading) × (read_response s ≡ gave r)
origin_read s (by_command k a) =
    let b : CommandReadBack a.call (value a.table) s =
    command_read_back a.call (value a.table) a.effect s a.gives a.answers in
    (b.back.reading, b.back.read)
origin_read s (by_completion f) = completed_read f.completion s f.inputs.0 f.completes

pub reader_exact : (s : List ℕ) → Bytes s → ((r : Reading) × (read_response s ≡ gave r)) ↔ Origin s
reader_exact s b = ((λ p. response_witness s b (read-response s p.0 p.1)), origin_read s)

pub reader_refuses : (s : List ℕ) → Bytes s → (Origin s → ⊥) → read_response s ≡ refused 5
reader_refuses s b h = not_read s (split (is_response s) (λ e. absurd (h (response_witness s b e))) (λ e. e))

-- "a draft alone gives 5"
pub draft-not-response : (k : ℕ) (d : List ℕ) → is_draft k d ≡ true → read_response d ≡ refused 5
unfolding is_response
draft-not-response k d e =
    let (l, p, i, a) = draft-reads k d e in
    not_read d
    (split (is_response d)
    (λ f.
    let (m, n, q) = any_found (λ m. reads m d) responses (and_left (any (λ m. reads m d) responses) _ f) in
    let u : is_signed (outer_tag m) ≡ false = not-true _ (all_member (λ m. not (is_signed (outer_tag m))) n refl) in
    clash a (rw (one_tag m l d q p) at u))
    (λ f. f))

-- ---- completion takes exactly the drafts that a command can write for that kind

pub completion_exact : (k : ℕ) (d : List ℕ) → Bytes d → (is_draft k d ≡ true) ↔ Drafted k d
completion_exact k d b = (draft_witness k d b, drafted_taken k d)

-- at the entry: what it completes is such a draft, it completes each, and refuses every other
module _ (c : Completion) where
  pub completion_took : (s : List ℕ) → Bytes c.draft → complete c ≡ gave s → Drafted c.kind c.draft
  completion_took s b e = draft_witness c.kind c.draft b (completion_passed c s e).0

  module _ (room : least_output ≤ c.output) where
    pub completion-takes : Drafted c.kind c.draft → completion_ok c ≡ true → complete c ≡ gave (completed c)
    completion-takes d o = completes c room (drafted_taken c.kind c.draft d) o

    pub completion-refuses : Bytes c.draft → (Drafted c.kind c.draft → ⊥) → complete c ≡ refused 5
    completion-refuses b h =
        no-draft c room
        (split (is_draft c.kind c.draft) (λ e. absurd (h (draft_witness c.kind c.draft b e))) (λ e. e))
