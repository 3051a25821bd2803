-- Reading what a command or a completion wrote, over the promises of the entries: every field is at its place, and a completion's signed stretch is the
-- draft.
-- Assumes nothing.
use mathlib.Core.Path.{◌≡◌, refl, sym, ap, ◌∙◌}
use mathlib.Core.Bool.{true}
use mathlib.Core.List.{List, [], ◌∷◌, map}
use mathlib.Core.Logic.{◌⊎◌, inl, inr, ⊎_elim}
use mathlib.Core.Option.{some, get_or}
use Prim.Native.Nat.{ℕ, ◌≤◌, ◌<◌}
use native.Mathlib.Omega.{arith}
use lib.ListN.{length, take, drop}
use lib.Seq.{take_at}
use Rattle.model.specs.Tlv.{Bytes, Kind, kind_of, response_tag}
use Rattle.model.specs.Layouts.{Layout, reads}
use Rattle.model.specs.Records.{Table, max_stored}
use Rattle.model.specs.Commands.{Check, judge, Result, refused, gave, Answer, response, draft, Call, Given, lent_ok, table_of, kind, Effect, perform, refusals, outcome, least_output, bytes_of, over, outputs}
use Rattle.model.specs.Complete.{Completion, drafts_of, is_draft, completion_ok, completed, complete}
use Rattle.model.specs.Reader.{Part, Stretch, cut, read_response}
use Rattle.model.proofs.Basics.{split, impossible}
use Rattle.model.proofs.LayoutLaws.{reads-written}
use Rattle.model.proofs.LayoutWritten.{WrittenBy, any_found}
use Rattle.model.proofs.PartLaws.{fields_at}
use Rattle.model.proofs.CompletionWrites.{completion_tag, completed_layout, completed_fields, completion_passed}
use Rattle.model.proofs.CommandWrites.{completion_kind, Said, SaidDraft, draft_taken}
use Rattle.model.proofs.EdgesSign.{picked}
use Rattle.model.proofs.Refusals.{performs, completes}
use Rattle.model.proofs.Exactness.{draft-not-response}
use Rattle.model.proofs.ReadBack.{ReadBack, said_status, CommandReadBack, command_read_back, CompletionReadBack, completion_read_back, DraftReadBack, draft_read_back}
use Rattle.response_reader.specs.Readings.{column}
use Rattle.token.specs.Returned.{Returned, gets, answer_number, returned}
use Rattle.token.specs.Written.{ReturnedBytes, wrote, returned_bytes}
use Rattle.token.specs.Responses.{ReturnedPart, pointed, ReturnedFields, returned_fields}

-- ---- what the reader's two entries gave

-- the second, of a response with these bytes whose fields have this layout and these values: each stands at its place
pub record FieldsRead (s : List ℕ) (layout : Layout) (values : List (List ℕ)) (l : ReturnedFields) : Type 0 where
  pub read : l.code ≡ 0
  pub parts : List Part
  pub are : parts ≡ fields_at 0 layout values
  pub hold : map (cut s) parts ≡ values
  pub few : length parts ≤ 17
  pub count : l.count ≡ length parts
  pub tags : l.tags ≡ column (λ f. f.tag) parts
  pub places : l.places ≡ column (λ f. f.place) parts
  pub lengths : l.lengths ≡ column (λ f. f.size) parts

fields_read : {s : List ℕ} {m : Layout} {vs : List (List ℕ)} (b : ReadBack s m vs) (l : ReturnedFields)
    → FieldsRead s m vs (returned_fields (gave b.reading) l)
unfolding returned_fields
fields_read b l =
    record {
      read = refl;
      parts = b.reading.fields;
      are = b.fields;
      hold = b.values;
      few = b.few;
      count = refl;
      tags = refl;
      places = refl;
      lengths = refl;
    }

-- both, where c is the completion that wrote the response, of a draft with this layout and these values for its fields
pub record ReadsBack (c : Completion) (layout : Layout) (values : List (List ℕ)) (s : List ℕ) (p : ReturnedPart) (l : ReturnedFields) : Type 0 where
  -- the signed stretch
  pub signed : p.code ≡ 0
  pub place : p.place ≡ 18
  pub size : p.size ≡ length c.draft
  pub bytes : take p.size (drop p.place s) ≡ c.draft
  -- the fields: the status, those of the draft, the signature and what goes with it
  pub tag : l.tag ≡ completion_tag c.kind
  pub status : l.status ≡ 0
  pub fields : FieldsRead s (completed_layout c layout) (completed_fields c values) l

reads_back : {c : Completion} {m : Layout} {vs : List (List ℕ)} {s : List ℕ} → CompletionReadBack c m vs s
    → (p₀ : ReturnedPart) {p : ReturnedPart} (l₀ : ReturnedFields) {l : ReturnedFields}
    → p ≡ pointed (read_response s) p₀ → l ≡ returned_fields (read_response s) l₀ → ReadsBack c m vs s p l
unfolding pointed returned_fields
reads_back k p₀ l₀ ep el =
    rw (ep, el, k.back.read)
    (record {
      signed = refl;
      place = k.signed.place;
      size = k.signed.size;
      bytes = k.signed.bytes;
      tag = k.back.tag;
      status = k.status;
      fields = fields_read k.back l₀;
    })

-- what was written over the front of an output
front : (s out : List ℕ) {out' : List ℕ} {n : ℕ} → n ≡ length s → out' ≡ over s out → take n out' ≡ s
front s out n e = rw (n, e) (take_at s (drop (length s) out) (length s) refl)

-- ---- a completion that gives 0 wrote a response

-- no refusal has the number 0
abbrev pub Numbered : List Check → Type 0
Numbered [] = Unit {0}
Numbered (c ∷ cs) = (0 < c.says) × Numbered cs

pub one_of : {A G : Type 0} (cs : List Check) (x : A) → Numbered cs → ((n : ℕ) → 0 < n → judge cs refused (gave x) ≡ refused n → G)
    → (judge cs refused (gave x) ≡ gave x → G) → G
unfolding judge
one_of [] x h f g = g refl
one_of (c ∷ cs) x h f g =
    split c.fails (λ e. f c.says h.0 (rw e)) (λ e. one_of cs x h.1 (λ n k p. f n k (rw e p)) (λ p. g (rw e p)))

gave_of : (c : Completion) (b w : ReturnedBytes) → w ≡ returned_bytes (complete c) b → w.code ≡ 0
    → complete c ≡ gave (take w.size w.output)
unfolding returned_bytes complete
gave_of c b w p z =
    one_of _ (completed c) (omega arith, (omega arith, (omega arith, tt)))
    (λ n h e. let q : w.code ≡ n = rw e at (ap (λ (x : ReturnedBytes). x.code) p) in absurd (omega arith))
    (λ e.
    let n : w.size ≡ length (completed c) = rw e at (ap (λ (x : ReturnedBytes). x.size) p) in
    let o : w.output ≡ over (completed c) b.output = rw e at (ap (λ (x : ReturnedBytes). x.output) p) in
    e ∙ ap gave (sym (front (completed c) b.output n o)))

-- ---- and that is read back

-- whatever layout and values the draft has
pub completion-reads_back : (c : Completion) (m : Layout) (vs : List (List ℕ)) → WrittenBy (drafts_of c.kind) m vs c.draft
    → (b w : ReturnedBytes) (p₀ p : ReturnedPart) (l₀ l : ReturnedFields)
    → w ≡ returned_bytes (complete c) b → w.code ≡ 0
    → p ≡ pointed (read_response (take w.size w.output)) p₀
    → l ≡ returned_fields (read_response (take w.size w.output)) l₀
    → ReadsBack c m vs (take w.size w.output) p l
completion-reads_back c m vs t b w p₀ p l₀ l e z = reads_back (completion_read_back c _ m vs t (gave_of c b w e z)) p₀ l₀

-- and it has some: what a completion takes is the writing of one of its kind's layouts
pub completed-draft : (c : Completion) (b w : ReturnedBytes) → Bytes c.draft → w ≡ returned_bytes (complete c) b → w.code ≡ 0
    → (m : Layout) × (vs : List (List ℕ)) × WrittenBy (drafts_of c.kind) m vs c.draft
unfolding is_draft
completed-draft c b w held e z =
    let (m, i, d) = any_found (λ m. reads m c.draft) (drafts_of c.kind) (completion_passed c _ (gave_of c b w e z)).0 in
    let f = reads-written m c.draft held d in
    (m, f.values, record { listed = i; fit = f.fit; number = f.number; written = f.written })

-- ---- a call that gives 0 wrote its answer

-- which answer that is the number tells, and its bytes are the first of the output
record Answered (c : Call) (g : Given) (r : Returned) : Type 0 where
  effect : Effect
  gives : outcome c g ≡ gave effect
  number : answer_number effect.answer ≡ r.answer
  bytes : take r.response_length r.response ≡ bytes_of effect.answer

answered : (c : Call) (g : Given) (r₀ r : Returned) → r ≡ returned (outcome c g) r₀ → r.code ≡ 0 → Answered c g r
unfolding returned outputs outcome refusals
answered c g r₀ r p z =
    one_of _ _ (omega arith, (omega arith, (omega arith, (omega arith, tt))))
    (λ n h e. let q : r.code ≡ n = rw e at (ap (λ (x : Returned). x.code) p) in absurd (omega arith))
    (λ e.
    record {
      effect = perform (kind c) c (get_or (table_of g) []);
      gives = e;
      number = sym (rw e at (ap (λ (x : Returned). x.answer) p));
      bytes = front _ r₀.response (rw e at (ap (λ (x : Returned). x.response_length) p)) (rw e at (ap (λ (x : Returned). x.response) p));
    })

-- 0 for a response, 1 for a draft
responded : (a : Answer) {s : List ℕ} → s ≡ bytes_of a → answer_number a ≡ 0 → a ≡ response s
responded (response t) e n = ap response (sym e)
responded (draft t) e n = absurd (omega arith)

drafted : (a : Answer) {s : List ℕ} → s ≡ bytes_of a → answer_number a ≡ 1 → a ≡ draft s
drafted (response t) e n = absurd (omega arith)
drafted (draft t) e n = ap draft (sym e)

no_other : (a : Answer) → (answer_number a ≡ 0) ⊎ (answer_number a ≡ 1)
no_other (response t) = inl refl
no_other (draft t) = inr refl

module _ {c : Call} {g : Given} {r : Returned} (k : Answered c g r) where
  is-response : r.answer ≡ 0 → k.effect.answer ≡ response (take r.response_length r.response)
  is-response z = responded k.effect.answer k.bytes (k.number ∙ z)

  is-draft : r.answer ≡ 1 → k.effect.answer ≡ draft (take r.response_length r.response)
  is-draft z = drafted k.effect.answer k.bytes (k.number ∙ z)

-- ---- a command's response, read: what is read is what the command said, and no stretch of it is signed

pub record CommandReadsBack (c : Call) (g : Given) (s : List ℕ) (p : ReturnedPart) (l : ReturnedFields) : Type 0 where
  pub table : Table
  pub given : table_of g ≡ some table
  pub layout : Layout
  pub values : List (List ℕ)
  pub said : Said c.lent (picked c table) (kind c) layout values
  pub signed : p.code ≡ 0
  pub place : p.place ≡ 0
  pub size : p.size ≡ 0
  pub tag : l.tag ≡ response_tag (kind c)
  pub status : l.status ≡ said_status said
  pub fields : FieldsRead s layout values l

pub command-reads_back : (c : Call) (g : Given) (r₀ r : Returned) (p₀ p : ReturnedPart) (l₀ l : ReturnedFields)
    → r ≡ returned (outcome c g) r₀ → r.code ≡ 0 → r.answer ≡ 0
    → p ≡ pointed (read_response (take r.response_length r.response)) p₀
    → l ≡ returned_fields (read_response (take r.response_length r.response)) l₀
    → CommandReadsBack c g (take r.response_length r.response) p l
unfolding pointed returned_fields
command-reads_back c g r₀ r p₀ p l₀ l er zr ar ep el =
    let a = answered c g r₀ r er zr in
    let k : CommandReadBack c g (take r.response_length r.response) = command_read_back c g a.effect _ a.gives (is-response a ar) in
    rw (ep, el, k.back.read)
    (record {
      table = k.table;
      given = k.given;
      layout = k.layout;
      values = k.values;
      said = k.said;
      signed = refl;
      place = ap (λ (x : Stretch). x.place) k.unsigned;
      size = ap (λ (x : Stretch). x.size) k.unsigned;
      tag = k.tag;
      status = k.status;
      fields = fields_read k.back l₀;
    })

-- ---- a command's draft, completed and read: what is read is what the command said

pub record DraftReadsBack (c : Call) (g : Given) (x : Completion) (s : List ℕ) (p : ReturnedPart) (l : ReturnedFields) : Type 0 where
  pub table : Table
  pub given : table_of g ≡ some table
  pub layout : Layout
  pub values : List (List ℕ)
  pub said : SaidDraft c.command c.lent (picked c table) (kind c) layout values
  pub back : ReadsBack x layout values s p l

pub draft-reads_back : (c : Call) (g : Given) (x : Completion) (r₀ r : Returned) (b w : ReturnedBytes) (p₀ p : ReturnedPart) (l₀ l : ReturnedFields)
    → r ≡ returned (outcome c g) r₀ → r.code ≡ 0 → r.answer ≡ 1 → x.draft ≡ take r.response_length r.response
    → w ≡ returned_bytes (complete x) b → w.code ≡ 0
    → p ≡ pointed (read_response (take w.size w.output)) p₀
    → l ≡ returned_fields (read_response (take w.size w.output)) l₀
    → DraftReadsBack c g x (take w.size w.output) p l
draft-reads_back c g x r₀ r b w p₀ p l₀ l er zr ar ex e z ep el =
    let a = answered c g r₀ r er zr in
    let k : DraftReadBack c g x (take w.size w.output) =
    draft_read_back c g a.effect x _ a.gives (is-draft a ar ∙ ap draft (sym ex)) (gave_of x b w e z) in
    record {
      table = k.table;
      given = k.given;
      layout = k.layout;
      values = k.values;
      said = k.said;
      back = reads_back k.back p₀ l₀ ep el;
    }

-- ---- the conditions of these laws

-- the number 0 is needed: after any other all that was lent to the call, or to the completion, is as it was
pub command-refused : (o : Result Effect) (r₀ r : Returned) → r ≡ returned o r₀ → (r.code ≡ 0 → ⊥)
    → r ≡ gets r.code r₀.answer r₀.response_length r₀.table_length r₀.response r₀.table
unfolding returned
command-refused (refused n) r₀ r p z = rw p
command-refused (gave e) r₀ r p z = absurd (z (ap (λ (x : Returned). x.code) p))

pub completion-refused : (o : Result (List ℕ)) (b w : ReturnedBytes) → w ≡ returned_bytes o b → (w.code ≡ 0 → ⊥)
    → w ≡ wrote w.code b.size b.output
unfolding returned_bytes
completion-refused (refused n) b w p z = rw p
completion-refused (gave s) b w p z = absurd (z (ap (λ (x : ReturnedBytes). x.code) p))

-- a call's 0 is met where no refusal has a reason
pub command_gives : (c : Call) (g : Given) (r₀ r : Returned) → r ≡ returned (outcome c g) r₀ → least_output ≤ c.output
    → max_stored ≤ get_or c.table_output max_stored → (t : Table) → table_of g ≡ some t → (k : Kind) → kind_of c.command ≡ some k
    → lent_ok k c.lent ≡ true → r.code ≡ 0
unfolding returned
command_gives c g r₀ r er h i t d k n o = rw (er, performs c g h i t d k n o)

module _ (c : Call) (g : Given) (r₀ r : Returned) (er : r ≡ returned (outcome c g) r₀) (zr : r.code ≡ 0) where
  -- its answer is 0 or 1, and no other
  pub response_or_draft : (r.answer ≡ 0) ⊎ (r.answer ≡ 1)
  response_or_draft = let a = answered c g r₀ r er zr in rw a.number at (no_other a.effect.answer)

  draft-kind : r.answer ≡ 1 → is_draft (completion_kind (kind c)) (take r.response_length r.response) ≡ true
  draft-kind ar = let a = answered c g r₀ r er zr in draft_taken c g a.effect _ a.gives (is-draft a ar)

  -- the answer 0 is needed: the reader refuses a draft
  pub draft-not_read : (p₀ p : ReturnedPart) (l₀ l : ReturnedFields) → r.answer ≡ 1
      → p ≡ pointed (read_response (take r.response_length r.response)) p₀
      → l ≡ returned_fields (read_response (take r.response_length r.response)) l₀
      → (p.code ≡ 5) × (l.code ≡ 5)
  unfolding pointed returned_fields
  draft-not_read p₀ p l₀ l ar ep el = rw (ep, el, draft-not-response _ _ (draft-kind ar)) (refl, refl)

  module _ (x : Completion) (ex : x.draft ≡ take r.response_length r.response) (b w : ReturnedBytes) (e : w ≡ returned_bytes (complete x) b) where
    -- the answer 1 is met wherever a completion gives 0: no response can be completed
    pub completed-was-draft : w.code ≡ 0 → r.answer ≡ 1
    completed-was-draft z =
        let a = answered c g r₀ r er zr in
        let d = rw ex at (draft-not-response x.kind x.draft (completion_passed x _ (gave_of x b w e z)).0) in
        ⊎_elim
        (λ ar. let f = (command_read_back c g a.effect _ a.gives (is-response a ar)).back.read in impossible (cc (d, f)))
        (λ ar. ar) response_or_draft

    -- a completion's 0 is met where the kind is the command's and all else lent to it is in order
    pub draft-completes : r.answer ≡ 1 → x.kind ≡ completion_kind (kind c) → least_output ≤ x.output → completion_ok x ≡ true → w.code ≡ 0
    unfolding returned_bytes
    draft-completes ar k h o = rw (e, completes x h (rw (k, ex) (draft-kind ar)) o)
