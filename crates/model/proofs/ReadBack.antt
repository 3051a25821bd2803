-- Every response that a command or completion writes is read back: its tag, its status, its fields, the draft.
-- Assumes nothing.
use mathlib.Core.Path.{◌≡◌, refl, sym, ap, ◌∙◌, subst}
use mathlib.Core.Bool.{Bool, true, false, not, ◌&&◌}
use mathlib.Core.List.{List, [], ◌∷◌, map, append_assoc}
use mathlib.Core.Option.{none, some}
use Prim.Native.Nat.{ℕ, ◌+◌, ◌≤◌, ◌<◌}
use native.Mathlib.Omega.{arith}
use lib.ListN.{length, take, drop, get_or, length-map}
use lib.Seq.{take_at}
use lib.Dec.{leb, ltb, eqb}
use borrow.Author.Tests.{leb-true, ltb-true, eqb-true}
use Rattle.model.specs.Lists.{select, first, distinct, any, all}
use Rattle.model.specs.Tlv.{num, le, bytes, fits, rule_of, Kind, register, sign, broken, response_tag}
use Rattle.model.specs.Layouts.{Layout, end, field, group, size, fill, write}
use Rattle.model.specs.Commands.{Call, Given, table_of, Effect, gave, response, kind, outcome, Lent, lent_ok, statuses, draft, key_registration_data, register_fields, register_draft, signed_data, has_content, transaction_hash, sign_fields, sign_draft}
use Rattle.model.specs.Records.{Table, Record, record_ok, max_count}
use Rattle.model.specs.Complete.{Completion, drafts_of, complete, is_draft}
use Rattle.model.specs.Reader.{Part, Stretch, Reading, parts, field_parts, cut, responses, is_response, signed_part, stretch, read_response, is_signed}
use Rattle.model.proofs.Basics.{and_left, and_right, both, clash, passes, impossible}
use Rattle.model.proofs.Numbers.{num-le}
use Rattle.model.proofs.LayoutLaws.{fit_all, tags_ok, most, fits-most, fits-least, fit_field, fit_group}
use Rattle.model.proofs.PartLaws.{nodes, honest, View, view, parts_shown, shown_select, fields_at, fields-exact, fields_back, none_such}
use Rattle.model.proofs.LayoutWritten.{all_member, WrittenBy, written-tags, written-most, written-reads, responses-small, outer_tag, keys_in, keys-listed, any_found}
use Rattle.model.proofs.CommandWrites.{Said, Responded, command_writes, each-kind, completion_kind, drafts, drafts_small, status-alone, the_profile, the_names, SaidDraft, WroteDraft, command_drafts, register_writes, sign_writes}
use Rattle.model.proofs.Kept.{Accepted, accepted}
use Rattle.model.proofs.EdgesSign.{picked}
use Rattle.model.proofs.CompletionWrites.{completed_layout, completed_fields, Completed, completion_writes, one-kind, completion_passed}

-- ---- the tag and the status

-- a group that begins with a field of two bytes
abbrev headed : Layout → Bool
headed end = false
headed (field f l) = false
headed (group t end l) = false
headed (group t (group u inner m) l) = false
headed (group t (field f m) l) = ltb t 65536 && (leb 2 (rule_of f).least && leb (rule_of f).most 2)

head_read : (l : Layout) (vs : List (List ℕ)) → headed l ≡ true → fit_all l vs ≡ true
    → (num (take 2 (write l vs)) ≡ outer_tag l) × (num (take 2 (drop 8 (write l vs))) ≡ num (get_or vs 0 []))
unfolding write fill bytes le
head_read end vs h e = clash h refl
head_read (field f l) vs h e = clash h refl
head_read (group t end l) vs h e = clash h refl
head_read (group t (group u inner m) l) vs h e = clash h refl
head_read (group t (field f m) l) vs h e =
    let a : ltb t 65536 ≡ true = and_left (ltb t 65536) _ h in
    let b : leb 2 (rule_of f).least ≡ true = search (and_left, and_right) in
    let c : leb (rule_of f).most 2 ≡ true = search (and_left, and_right) in
    let v : fits f (get_or vs 0 []) ≡ true = (fit_field f m vs (fit_group t (field f m) l vs e).0).0 in
    let n : length (get_or vs 0 []) ≡ 2 =
    omega (arith, leb-true 2 (rule_of f).least b, leb-true (rule_of f).most 2 c, fits-most f _ v, fits-least f _ v) in (
      num-le 2 t (ltb-true t 65536 a),
      ap num (ap (take 2) (append_assoc (get_or vs 0 []) (bytes (fill m (drop 1 vs))) _) ∙ take_at (get_or vs 0 []) _ 2 n),
    )

-- ---- the fields

-- what the reader gives of a response with this layout and these values
pub record ReadBack (s : List ℕ) (l : Layout) (vs : List (List ℕ)) : Type 0 where
  pub reading : Reading
  pub read : read_response s ≡ gave reading
  pub signed : reading.signed ≡ signed_part s
  pub tag : reading.tag ≡ outer_tag l
  pub status : reading.status ≡ num (get_or vs 0 [])
  pub fields : reading.fields ≡ fields_at 0 l vs
  pub values : map (cut s) reading.fields ≡ vs
  pub few : length reading.fields ≤ 17

-- the parts that are signed structures
abbrev signed_parts : List ℕ → List Part
signed_parts s = select (λ p. is_signed p.tag) (parts s)

module _ (s : List ℕ) (l : Layout) (vs : List (List ℕ)) (w : WrittenBy responses l vs s) where
  is_honest : honest 5 l ≡ true
  is_honest = all_member (honest 5) w.listed refl

  has_small_tags : tags_ok l ≡ true
  has_small_tags = written-tags responses-small w

  is-small : most l < 65536
  is-small = omega (arith, written-most responses-small w)

  is-response : distinct (keys_in l vs) ≡ true → is_response s ≡ true
  unfolding is_response
  is-response k =
      both (written-reads responses-small w)
      (rw (← w.written, keys-listed l vs is_honest w.fit has_small_tags is-small) k)

  pub written_read : distinct (keys_in l vs) ≡ true → ReadBack s l vs
  unfolding read_response le
  written_read k =
      let n : leb (size l) 17 ≡ true = all_member (λ l. leb (size l) 17) w.listed refl in
      let r = head_read l vs (all_member headed w.listed refl) w.fit in
      let v : map (cut s) (field_parts s) ≡ vs =
      rw (← w.written) (fields_back l vs is_honest w.fit has_small_tags is-small w.number) in
      let m : length (field_parts s) ≡ length vs = sym (length-map (field_parts s) (cut s)) ∙ ap length v in
      record {
        reading = _;
        read = passes _ _ _ (ap not (is-response k), tt);
        signed = refl;
        tag = rw w.written at r.0;
        status = rw w.written at r.1;
        fields = rw (← w.written) (fields-exact l vs is_honest w.fit has_small_tags is-small w.number);
        values = v;
        few = omega (arith, m, w.number, leb-true (size l) 17 n);
      }

  signed_parts_lem : map (view s) (signed_parts s) ≡ select (λ v. is_signed v.tag) (nodes 0 l vs)
  signed_parts_lem =
      rw (← w.written)
      (shown_select (write l vs) (parts (write l vs)) (nodes 0 l vs) (parts_shown l vs is_honest w.fit has_small_tags is-small) is_signed)

-- ---- the signed structure

-- "Without a signed structure the stretch is empty"
no_structure : (s : List ℕ) (ps : List Part) → map (view s) ps ≡ [] → stretch (first ps) ≡ stretch none
no_structure s [] e = refl
no_structure s (p ∷ ps) e = impossible cc

-- these bytes are that stretch of the caller's own
pub record IsStretch (s : List ℕ) (p : Stretch) (at : ℕ) (d : List ℕ) : Type 0 where
  pub place : p.place ≡ at
  pub size : p.size ≡ length d
  pub bytes : take p.size (drop p.place s) ≡ d

one_structure : (s : List ℕ) (ps : List Part) (v : View) (at : ℕ) (d : List ℕ) → map (view s) ps ≡ v ∷ [] → v.place ≡ at + 4
    → v.size + 4 ≡ length d → v.whole ≡ d → IsStretch s (stretch (first ps)) at d
one_structure s [] v at d e a n h = impossible cc
one_structure s (p ∷ ps) v at d e a n h =
    let f : view s p ≡ v = cc in
    let g : p.place ≡ v.place = cc in
    record {
      place = omega arith;
      size = ap (λ (u : View). u.size + 4) f ∙ n;
      bytes = ap (λ (u : View). u.whole) f ∙ h;
    }

-- ---- every command

status-small : (k : Kind) (n : ℕ) → any (eqb n) (statuses k) ≡ true → n < 65536
status-small k n e =
    let (m, i, f) = any_found (eqb n) (statuses k) e in
    let u : all (λ j. ltb j 65536) (statuses k) ≡ true = each-kind (λ k. all (λ j. ltb j 65536) (statuses k)) refl k in
    omega (arith, eqb-true n m f, ltb-true m 65536 (all_member (λ j. ltb j 65536) i u))

-- the status said
abbrev pub said_status : {l : Lent} {rs : Table} {k : Kind} {m : Layout} {vs : List (List ℕ)} → Said l rs k m vs → ℕ
said_status (status-alone k n e) = n
said_status the_profile = 0
said_status (the_names h) = 0

said-first : {l : Lent} {rs : Table} {k : Kind} {m : Layout} {vs : List (List ℕ)} (u : Said l rs k m vs)
    → num (get_or vs 0 []) ≡ said_status u
said-first (status-alone k n e) = num-le 2 n (status-small k n e)
said-first the_profile = num-le 2 0 (omega arith)
said-first (the_names h) = num-le 2 0 (omega arith)

-- what was said, of the lent profile and the records chosen, is what is read; no stretch of it is signed
pub record CommandReadBack (c : Call) (g : Given) (s : List ℕ) : Type 0 where
  pub table : Table
  pub given : table_of g ≡ some table
  pub layout : Layout
  pub values : List (List ℕ)
  pub said : Said c.lent (picked c table) (kind c) layout values
  pub written : write layout values ≡ s
  pub back : ReadBack s layout values
  pub tag : back.reading.tag ≡ response_tag (kind c)
  pub status : back.reading.status ≡ said_status said
  pub unsigned : back.reading.signed ≡ stretch none

pub command_read_back : (c : Call) (g : Given) (e : Effect) (s : List ℕ) → outcome c g ≡ gave e → e.answer ≡ response s
    → CommandReadBack c g s
unfolding signed_part
command_read_back c g e s p q =
    let a : Accepted c g e = accepted c g e p in
    let r : Responded c.lent (picked c a.table) (kind c) s = command_writes c g e a s q in
    let b : ReadBack s r.layout r.values = written_read s r.layout r.values r.written r.keys in
    record {
      table = a.table;
      given = a.read;
      layout = r.layout;
      values = r.values;
      said = r.said;
      written = r.written.written;
      back = b;
      tag = b.tag ∙ r.tag;
      status = b.status ∙ said-first r.said;
      unsigned =
          b.signed
          ∙ no_structure s (signed_parts s)
          (signed_parts_lem s r.layout r.values r.written ∙ none_such is_signed 0 r.layout r.values r.unsigned);
    }

-- ---- every completion

-- of a draft with this layout and these values: its fields are the status, those of the draft, and the signature with what goes with it
pub record CompletionReadBack (c : Completion) (l : Layout) (vs : List (List ℕ)) (s : List ℕ) : Type 0 where
  pub back : ReadBack s (completed_layout c l) (completed_fields c vs)
  pub status : back.reading.status ≡ 0
  pub signed : IsStretch s back.reading.signed 18 c.draft

pub completion_read_back : (c : Completion) (s : List ℕ) (l : Layout) (vs : List (List ℕ))
    → WrittenBy (drafts_of c.kind) l vs c.draft → complete c ≡ gave s → CompletionReadBack c l vs s
unfolding signed_part
completion_read_back c s l vs w e =
    let r : Completed (completed_layout c l) (completed_fields c vs) c.draft s = completion_writes c s l vs w e in
    let b : ReadBack s (completed_layout c l) (completed_fields c vs) = written_read s _ _ r.written r.keys in
    record {
      back = b;
      status = b.status ∙ num-le 2 0 (omega arith);
      signed =
          subst (λ (p : Stretch). IsStretch s p 18 c.draft) (sym b.signed)
          (one_structure s (signed_parts s) r.structure 18 c.draft (signed_parts_lem s _ _ r.written ∙ r.signs) r.place r.size
          r.whole);
    }

-- ---- what is read of a completion is what the draft's command said

-- a completion of a draft that this kind of command wrote
completion_of : (k : Kind) (x : Completion) (s : List ℕ) (l : Layout) (vs : List (List ℕ)) → WrittenBy (drafts k) l vs x.draft
    → complete x ≡ gave s → (completion_kind k ≡ x.kind) × CompletionReadBack x l vs s
unfolding is_draft
completion_of k x s l vs w e =
    let q : completion_kind k ≡ x.kind =
    one-kind (completion_kind k) x.kind x.draft (written-reads (drafts_small k) w) (completion_passed x s e).0 in
    (q, completion_read_back x s l vs (subst (λ (j : ℕ). WrittenBy (drafts_of j) l vs x.draft) q w) e)

module _ (x : Completion) (s : List ℕ) (done : complete x ≡ gave s) (q : List ℕ) (l : Lent) where
  pub register_read_back : lent_ok register l ≡ true → broken register q ≡ false → x.draft ≡ register_draft q l
      → CompletionReadBack x (key_registration_data end) (register_fields q l) s
  register_read_back p b e =
      (completion_of register x s _ _ (subst (WrittenBy (drafts register) _ (register_fields q l)) (sym e) (register_writes q l p b)) done).1

  pub sign_read_back : (r : Record) → lent_ok sign l ≡ true → broken sign q ≡ false → record_ok r ≡ true → r.count < max_count
      → x.draft ≡ sign_draft q l r
      → CompletionReadBack x (signed_data (has_content q) end) (sign_fields (has_content q) (transaction_hash q) q l r) s
  sign_read_back r p b o u e =
      (completion_of sign x s _ _ (subst (WrittenBy (drafts sign) _ (sign_fields (has_content q) (transaction_hash q) q l r)) (sym e) (sign_writes q l r p b o u)) done).1

-- the draft of any call
pub record DraftReadBack (c : Call) (g : Given) (x : Completion) (s : List ℕ) : Type 0 where
  pub table : Table
  pub given : table_of g ≡ some table
  pub layout : Layout
  pub values : List (List ℕ)
  pub said : SaidDraft c.command c.lent (picked c table) (kind c) layout values
  pub written : write layout values ≡ x.draft
  pub of_kind : completion_kind (kind c) ≡ x.kind
  pub back : CompletionReadBack x layout values s

pub draft_read_back : (c : Call) (g : Given) (e : Effect) (x : Completion) (s : List ℕ) → outcome c g ≡ gave e → e.answer ≡ draft x.draft
    → complete x ≡ gave s → DraftReadBack c g x s
draft_read_back c g e x s p q f =
    let a : Accepted c g e = accepted c g e p in
    let w : WroteDraft c.command c.lent (picked c a.table) (kind c) x.draft = command_drafts c g e a x.draft q in
    let (k, b) = completion_of (kind c) x s w.layout w.values w.written f in
    record {
      table = a.table;
      given = a.read;
      layout = w.layout;
      values = w.values;
      said = w.said;
      written = w.written.written;
      of_kind = k;
      back = b;
    }
