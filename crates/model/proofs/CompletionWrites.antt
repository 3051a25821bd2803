-- What a completion writes, as a layout: the draft stands in it whole.
-- Assumes nothing.
use mathlib.Core.Path.{◌≡◌, refl, sym, ◌∙◌, ap}
use mathlib.Core.Bool.{Bool, true, false, cond, ◌&&◌, ◌||◌, or-false}
use mathlib.Core.List.{List, [], ◌∷◌, ◌++◌, Memᴰ}
use Prim.Native.Nat.{ℕ, ◌+◌, ◌≤◌}
use native.Mathlib.Omega.{arith}
use lib.ListN.{length, drop, length-append}
use lib.Seq.{drop_at}
use lib.Dec.{eqb}
use borrow.Author.Tests.{eqb-true}
use Rattle.model.specs.Lists.{select, empty, eq_bytes, distinct}
use Rattle.model.specs.Tlv.{Bytes, le, tlv, bytes, tag_of, fits, register, sign, ok, signature, certificate, full, surrogate, response_tag, krd_tag, assertion_tag, reg_assertion_tag, auth_assertion_tag}
use Rattle.model.specs.Layouts.{Layout, end, field, group, fields, size, fill, write, reads}
use Rattle.model.specs.Commands.{refused, gave, key_registration_data, signed_data, least_output}
use Rattle.model.specs.Complete.{Completion, drafts_of, is_draft, completion_ok, completed, complete}
use Rattle.model.specs.Reader.{asserted, responses, is_handle, is_signed}
use Rattle.model.proofs.Basics.{split, and_left, and_right, both, not-not, judged, impossible}
use Rattle.model.proofs.Tlvs.{bytes-append, length-bytes}
use Rattle.model.proofs.LayoutLaws.{fit_all, reads-written, fill_front, fit_all_front}
use Rattle.model.proofs.PartLaws.{View, shown, nodes, lacks}
use Rattle.model.proofs.LayoutWritten.{member, any_found, each_member, WrittenBy, written-length, responses-small, keys_in, no_keys, outer_tag, one_tag}
use Rattle.model.proofs.CommandWrites.{drafts_each}

-- ---- a draft's kind shows in its outer tag

-- the kind of completion for a draft with this one
abbrev pub kind_from : ℕ → ℕ
kind_from t = cond (eqb t krd_tag) 0 1

pub draft-reads : (k : ℕ) (d : List ℕ) → is_draft k d ≡ true
    → (l : Layout) × (reads l d ≡ true) × (kind_from (outer_tag l) ≡ k) × (is_signed (outer_tag l) ≡ true)
unfolding is_draft
draft-reads k d e =
    let (l, m, r) = any_found (λ l. reads l d) (drafts_of k) e in
    let (q, s) : (kind_from (outer_tag l) ≡ k) × (is_signed (outer_tag l) ≡ true) =
    each_member (λ l. (kind_from (outer_tag l) ≡ k) × (is_signed (outer_tag l) ≡ true)) m
    (drafts_each _ k (λ e. (sym e, refl)) (λ b e. (sym e, refl))) in
    (l, r, q, s)

-- no stretch is a draft of two kinds
pub one-kind : (j k : ℕ) (d : List ℕ) → is_draft j d ≡ true → is_draft k d ≡ true → j ≡ k
one-kind j k d e f =
    let (l, p, i, a) = draft-reads j d e in
    let (m, q, h, b) = draft-reads k d f in
    sym i ∙ ap kind_from (one_tag l m d p q) ∙ h

-- ---- the layout and the values of a completed response

-- the response tag for a kind
abbrev pub completion_tag : ℕ → ℕ
completion_tag k = response_tag (cond (eqb k 1) sign register)

-- what follows the draft: the signature, for registration inside the attestation tag, where full has the certificate after it
abbrev pub seal_layout : Completion → Layout
seal_layout c =
    cond (eqb c.kind 1) (field signature end)
    (group c.type (fields (signature ∷ cond (eqb c.type full) (certificate ∷ []) [])) end)

abbrev pub seal_fields : Completion → List (List ℕ)
seal_fields c = c.signature ∷ cond (eqb c.kind 1) [] (cond (eqb c.type full) (c.certificate ∷ []) [])

-- a layout, and another behind it
abbrev pub followed : Layout → Layout → Layout
followed end rest = rest
followed (field f l) rest = field f (followed l rest)
followed (group t inner l) rest = group t inner (followed l rest)

-- of a draft with this layout and these values
abbrev pub completed_layout : Completion → Layout → Layout
completed_layout c l =
    asserted (completion_tag c.kind) (cond (eqb c.kind 1) auth_assertion_tag reg_assertion_tag) (followed l (seal_layout c))

abbrev pub completed_fields : Completion → List (List ℕ) → List (List ℕ)
completed_fields c vs = le 2 0 ∷ (vs ++ seal_fields c)

-- what is claimed of a response that completes a draft: one TLV of it is a signed structure, and that is the draft
pub record Completed (l : Layout) (vs : List (List ℕ)) (d s : List ℕ) : Type 0 where
  pub written : WrittenBy responses l vs s
  pub keys : distinct (keys_in l vs) ≡ true
  pub structure : View
  pub signs : select (λ v. is_signed v.tag) (nodes 0 l vs) ≡ structure ∷ []
  pub place : structure.place ≡ 22
  pub size : structure.size + 4 ≡ length d
  pub whole : structure.whole ≡ d

-- "response, status OK, AUTHENTICATOR_ASSERTION, the assertion"
abbrev pub wrapped : ℕ → ℕ → List ℕ → List ℕ
wrapped outer a s = bytes (tlv outer (bytes (tlv (tag_of ok) (le 2 0) ∷ tlv assertion_tag (bytes (tlv a s ∷ [])) ∷ [])) ∷ [])

-- a group's values, and those of what comes after it
module _ {ls : List Layout} (g : ℕ) (inner rest : Layout) (vs : List (List ℕ)) (d : List ℕ) (f : WrittenBy ls (group g inner end) vs d)
    (ws : List (List ℕ)) where
  enough : size inner ≤ length vs
  enough = omega (arith, f.number)

  past : drop (size inner) (vs ++ ws) ≡ ws
  past = drop_at vs ws (size inner) (omega (arith, f.number))

  draft-is : bytes (tlv g (bytes (fill inner (vs ++ ws))) ∷ []) ≡ d
  unfolding write fill
  draft-is = rw (fill_front inner vs ws enough) f.written

  draft-size : length (bytes (fill inner (vs ++ ws))) + 4 ≡ length d
  unfolding bytes
  draft-size = rw (← draft-is) (omega (arith, length-bytes (tlv g (bytes (fill inner (vs ++ ws)))) []))

  fill_both : bytes (fill (group g inner rest) (vs ++ ws)) ≡ d ++ write rest ws
  unfolding write fill
  fill_both = rw past (bytes-append (tlv g (bytes (fill inner (vs ++ ws))) ∷ []) (fill rest ws) ∙ rw draft-is)

  fit_both : fit_all rest ws ≡ true → fit_all (group g inner rest) (vs ++ ws) ≡ true
  unfolding fit_all
  fit_both h = rw (fit_all_front inner vs ws enough, past) (both (and_left (fit_all inner vs) true f.fit) h)

  -- a draft, and what comes after it in the assertion
  assertion-written : (outer a : ℕ) → Memᴰ (asserted outer a (group g inner rest)) responses
      → lacks is_handle (asserted outer a (group g inner rest)) ≡ true → fit_all rest ws ≡ true → length ws ≡ size rest
      → select (λ v. is_signed v.tag) (nodes 0 (asserted outer a (group g inner rest)) (le 2 0 ∷ (vs ++ ws)))
      ≡ shown 18 (tlv g (bytes (fill inner (vs ++ ws)))) ∷ []
      → Completed (asserted outer a (group g inner rest)) (le 2 0 ∷ (vs ++ ws)) d (wrapped outer a (d ++ write rest ws))
  unfolding write fill fit_all fits le eq_bytes
  assertion-written outer a m k h n e =
      record {
        written =
            record {
              listed = m;
              fit = both (both (both (fit_both h) refl) refl) refl;
              number = rw length-append (omega (arith, f.number));
              written = rw (← fill_both);
            };
        keys = no_keys (asserted outer a (group g inner rest)) _ k;
        structure = shown 18 (tlv g (bytes (fill inner (vs ++ ws))));
        signs = e;
        place = refl;
        size = draft-size;
        whole = draft-is;
      }

-- ---- the four kinds of it

module _ {ls : List Layout} (vs : List (List ℕ)) (d v : List ℕ) (h : fits signature v ≡ true) where
  sign-completed : (b : Bool) → WrittenBy ls (signed_data b end) vs d
      → Completed (asserted (response_tag sign) auth_assertion_tag (signed_data b (field signature end))) (le 2 0 ∷ (vs ++ (v ∷ []))) d
      (wrapped (response_tag sign) auth_assertion_tag (d ++ bytes (tlv (tag_of signature) v ∷ [])))
  unfolding write fill fit_all nodes le
  sign-completed true w =
      assertion-written _ _ (field signature end) vs d w (v ∷ []) (response_tag sign) auth_assertion_tag (member 8 end responses (omega arith))
      refl (both h refl) refl refl
  sign-completed false w =
      assertion-written _ _ (field signature end) vs d w (v ∷ []) (response_tag sign) auth_assertion_tag (member 9 end responses (omega arith))
      refl (both h refl) refl refl

  register-completed : (type : ℕ) (x : List ℕ) → WrittenBy ls (key_registration_data end) vs d
      → (eqb type full && fits certificate x || eqb type surrogate && empty x) ≡ true
      → Completed
      (asserted (response_tag register) reg_assertion_tag
      (key_registration_data (group type (fields (signature ∷ cond (eqb type full) (certificate ∷ []) [])) end)))
      (le 2 0 ∷ (vs ++ (v ∷ cond (eqb type full) (x ∷ []) []))) d
      (wrapped (response_tag register) reg_assertion_tag
      (d ++ bytes (tlv type (bytes (tlv (tag_of signature) v ∷ cond (eqb type full) (tlv (tag_of certificate) x ∷ []) [])) ∷ [])))
  unfolding write fill fit_all nodes le
  register-completed type x w e =
      split (eqb type full)
      (λ t. let a : fits certificate x ≡ true = sym (or-false (fits certificate x)) ∙ (rw (eqb-true type full t) at e) in
      rw (eqb-true type full t)
      (assertion-written _ _ (group full (fields (signature ∷ certificate ∷ [])) end) vs d w (v ∷ x ∷ []) (response_tag register)
      reg_assertion_tag (member 6 end responses (omega arith)) refl (both (both h (both a refl)) refl) refl refl))
      (λ t. let a : eqb type surrogate ≡ true = and_left _ (empty x) (rw t at e) in
      rw (eqb-true type surrogate a)
      (assertion-written _ _ (group surrogate (fields (signature ∷ [])) end) vs d w (v ∷ []) (response_tag register) reg_assertion_tag
      (member 7 end responses (omega arith)) refl (both (both h refl) refl) refl refl))

-- ---- every completion

any-completed : (c : Completion) (l : Layout) (vs : List (List ℕ)) → WrittenBy (drafts_of c.kind) l vs c.draft → completion_ok c ≡ true
    → Completed (completed_layout c l) (completed_fields c vs) c.draft (completed c)
unfolding completion_ok completed
any-completed c l vs w h =
    let d : List ℕ = c.draft in
    let v : fits signature c.signature ≡ true = and_left _ _ h in
    let r = and_right (fits signature c.signature) _ h in
    each_member (λ l. WrittenBy (drafts_of c.kind) l vs d → Completed (completed_layout c l) (completed_fields c vs) d (completed c))
    w.listed
    (drafts_each _ c.kind
    (λ k w. rw k (register-completed vs d c.signature v c.type c.certificate w (rw k at r)))
    (λ content k w. rw k (sign-completed vs d c.signature v content w)))
    w

-- what is known of a completion that is not refused
pub completion_passed : (c : Completion) (s : List ℕ) → complete c ≡ gave s
    → (is_draft c.kind c.draft ≡ true) × (completion_ok c ≡ true) × (completed c ≡ s)
unfolding complete
completion_passed c s =
    judged (λ r. r ≡ gave s → (is_draft c.kind c.draft ≡ true) × (completion_ok c ≡ true) × (completed c ≡ s)) _ refused
    (gave (completed c))
    (λ n q. impossible cc)
    (λ h q. (not-not _ h.1.0, not-not _ h.1.1.0, cc))

pub completion_writes : (c : Completion) (s : List ℕ) (l : Layout) (vs : List (List ℕ)) → WrittenBy (drafts_of c.kind) l vs c.draft
    → complete c ≡ gave s → Completed (completed_layout c l) (completed_fields c vs) c.draft s
completion_writes c s l vs w e = let (p, o, q) = completion_passed c s e in rw q at (any-completed c l vs w o)

-- it fits the output
pub completed-fits : (c : Completion) (s : List ℕ) → Bytes c.draft → complete c ≡ gave s → length s ≤ least_output
unfolding is_draft
completed-fits c s b e =
    let (p, o, q) = completion_passed c s e in
    let (l, m, r) = any_found (λ l. reads l c.draft) (drafts_of c.kind) p in
    let f = reads-written l c.draft b r in
    let w : WrittenBy (drafts_of c.kind) l f.values c.draft =
    record { listed = m; fit = f.fit; number = f.number; written = f.written } in
    written-length responses-small (completion_writes c s l f.values w e).written
