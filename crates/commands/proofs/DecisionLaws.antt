-- What a command decides: by its checks a status alone, and where they pass what GetInfo, Register and Deregister decide.
-- Assumes nothing.
use mathlib.Core.Path.{◌≡◌, refl, sym, ap, ◌∙◌}
use mathlib.Core.Bool.{true, false}
use mathlib.Core.List.{List, [], ◌∷◌}
use mathlib.Core.Option.{some}
use Prim.Native.Nat.{ℕ, ◌≤◌}
use native.Mathlib.Omega.{arith}
use lib.ListN.{length}
use lib.Dec.{leb}
use borrow.Author.Tests.{leb-false}
use Rattle.model.specs.Lists.{among}
use Rattle.model.specs.Tlv.{Kind, get_info, register, deregister, open_settings, Field, rule_of, tag_of, fields_of, listed, mandatory, challenge_hash, username, key_id_or_none, broken, field_in}
use Rattle.model.specs.Records as records
use Rattle.model.specs.Records.{own, key_ids, max_own, max_records}
use Rattle.model.specs.Commands as model
use Rattle.model.specs.Commands.{Lent, Result, refused, gave, Check, check, judge, only, keep, add, response, draft, info_response, register_checks, register_draft, deregister_checks, decide_get_info, decide_register, decide_deregister, decide_open_settings, decide}
use Rattle.model.proofs.Basics.{Passed, judged, passes, judge-map, or_right, impossible}
use Rattle.model.proofs.Fields.{field_fits}
use Rattle.model.proofs.LayoutLaws.{fits-most}
use Rattle.tlv.specs.Heads.{part}
use Rattle.tlv.specs.declared.heads.Span.{Span}
use Rattle.params.specs.Lent.{lent_of}
use Rattle.params.specs.Parse.{Placed, ParamsPlaced, ParamsRead}
use Rattle.params.specs.declared.lent.Numbers.{Numbers}
use Rattle.params.specs.declared.parse.Params.{Params}
use Rattle.stored_table.specs.Changes.{removal, Can}
use Rattle.stored_table.specs.declared.left.Change.{Change}
use Rattle.stored_table.specs.declared.left.Change.TheVariants.{Keep, Add, Remove}
use Rattle.replies.specs.Replies.{answer_of, Quoted, SoundShape, Sound}
use Rattle.replies.specs.declared.reply.Shape.{Shape}
use Rattle.replies.specs.declared.reply.Shape.TheVariants.{Status, Registration}
use Rattle.commands.specs.Decisions.{decision, passed, decision_of, Decides, DecidesAlways}

-- ---- the first check that fails

-- what becomes of what checks gave
abbrev pub outcome : {A B : Type 0} → (ℕ → A) → A → Result B → A
outcome says all (refused n) = says n
outcome says all (gave v) = all

-- a judgment by the same checks
pub judge-is : (cs : List Check) {A B : Type 0} (says : ℕ → A) (all : A) {r : Result B} (v : B) → r ≡ judge cs refused (gave v)
    → judge cs says all ≡ outcome says all r
judge-is cs says all v e = sym (ap (outcome says all) e ∙ judge-map (outcome says all) cs refused (gave v))

-- by one that one fails, it is the first in every other
pub judge_failed : (cs : List Check) {A B : Type 0} (says : ℕ → A) (all : A) {n : ℕ} (v : B) → refused n ≡ judge cs refused (gave v)
    → judge cs says all ≡ says n
judge_failed cs says all v e = judge-is cs says all v e

-- by one that none fails, each passes
pub judge_passed : (cs : List Check) {B : Type 0} {u : B} (v : B) → gave u ≡ judge cs refused (gave v) → Passed cs
judge_passed cs {u = u} v e = judged (λ r. gave u ≡ r → Passed cs) cs refused (gave v) (λ n f. impossible cc) (λ p f. p) e

-- ---- a command by its checks

-- a reply that names no record
pub plain-sound : {k : Kind} {s : List ℕ} {t : records.Table} {c : Params} (x : Shape) → SoundShape k s t c x → Sound k s t c [] x
plain-sound x h = record { named-there = record { few = omega arith; each = λ i l. absurd (omega arith) }; own_shape = h }

-- these are its checks, and v is what it decides where they pass, by what is lent
pub record Checked (k : Kind) (s : List ℕ) (n : Numbers) (m key : List ℕ) (t : records.Table) (cs : List Check)
    (v : Lent → model.Decision) : Type 0 where
  pub by : (aaid metadata public_key nonce : List ℕ)
      → let l = lent_of aaid n metadata key public_key nonce in
      decide k s l (own m t) (among key (key_ids t)) (leb max_records (length t)) ≡ judge cs (only k keep) (v l)

module _ {k : Kind} {s : List ℕ} {n : Numbers} {m key : List ℕ} {t : records.Table} {cs : List Check} {v : Lent → model.Decision}
    (h : Checked k s n m key t cs v) where
  -- one fails
  pub fails : {c : Params} {chosen : List ℕ} {i : ℕ} → refused i ≡ judge cs refused passed
      → Decides k s n m key t c chosen (decision (Status i) 0 Keep)
  unfolding answer_of only
  fails {i = i} e =
      record {
        is = λ a d p x. sym (h.by a d p x ∙ judge_failed cs (only k keep) _ tt e);
        within = omega arith;
        sound = plain-sound (Status i) tt;
        can = tt;
      }

  module _ (e : passed ≡ judge cs refused passed) where
    pub by_passing : (aaid metadata public_key nonce : List ℕ)
        → let l = lent_of aaid n metadata key public_key nonce in
        decide k s l (own m t) (among key (key_ids t)) (leb max_records (length t)) ≡ v l
    by_passing a d p x = h.by a d p x ∙ passes cs (only k keep) _ (judge_passed cs tt e)

    -- all pass, and no record is named
    pub names_none : {c : Params} {chosen : List ℕ} {x : Shape} {w : Change}
        → ((l : Lent) → decision_of k s l t [] (decision x 0 w) ≡ v l) → SoundShape k s t c x → Can s key m t w
        → Decides k s n m key t c chosen (decision x 0 w)
    names_none {x = x} f q r =
        record { is = λ a d p y. f _ ∙ sym (by_passing a d p y); within = omega arith; sound = plain-sound x q; can = r }

-- ---- the fields of a command that breaks no rule

-- a field that must be given is no longer than its rule says
placed_short : (k : Kind) (f : Field) {s : List ℕ} {p : Span} → broken k s ≡ false
    → listed (fields_of k) (tag_of f) ≡ some (mandatory f) → Placed s f p → length (part s p) ≤ (rule_of f).most
placed_short k f {s} b e p = rw p.value (fits-most f (field_in f s) (field_fits k s f b e))

pub quoted_placed : (k : Kind) {s : List ℕ} {p : Params} → broken k s ≡ false
    → listed (fields_of k) (tag_of challenge_hash) ≡ some (mandatory challenge_hash) → ParamsPlaced s p → Quoted s p
quoted_placed k b e p =
    record { challenge = p.challenge-hash; short = placed_short k challenge_hash b e p.challenge-hash; content = p.transaction-content }

-- ---- GetInfo and open settings: one check

abbrev breaks : Kind → List ℕ → List Check
breaks k s = check 0x08 (broken k s) ∷ []

module _ (s : List ℕ) (n : Numbers) (m key : List ℕ) (t : records.Table) where
  pub info_checked : Checked get_info s n m key t (breaks get_info s) (λ l. record { answer = response (info_response l); change = keep })
  unfolding decide decide_get_info
  info_checked = record { by = λ a d p x. refl }

  pub settings_checked : Checked open_settings s n m key t (breaks open_settings s) (λ l. only open_settings keep 0x06)
  unfolding decide decide_open_settings
  settings_checked = record { by = λ a d p x. refl }

module _ {k : Kind} {v : Lent → model.Decision}
    (h : (s : List ℕ) (n : Numbers) (m key : List ℕ) (t : records.Table) → Checked k s n m key t (breaks k s) v) {p : Params} where
  pub always-broken : p.broken ≡ true → DecidesAlways k p (decision (Status 0x08) 0 Keep)
  unfolding judge
  always-broken b =
      record { always = λ s n m key t chosen q. fails (h s n m key t) (rw (← q.broken-is, b)) }

  pub always-given : {x : Shape} → p.broken ≡ false
      → ((s : List ℕ) (l : Lent) (t : records.Table) → decision_of k s l t [] (decision x 0 Keep) ≡ v l)
      → ((s : List ℕ) (t : records.Table) (c : Params) → SoundShape k s t c x) → DecidesAlways k p (decision x 0 Keep)
  unfolding judge
  always-given b f g =
      record { always = λ s n m key t chosen q. names_none (h s n m key t) (rw (← q.broken-is, b)) (λ l. f s l t) (g s t _) tt }

-- ---- Register

-- the checks do not read what is lent for the draft alone
abbrev register_list : List ℕ → Numbers → List ℕ → List ℕ → records.Table → List Check
register_list s n m key t =
    register_checks s (lent_of [] n [] key [] []) (own m t) (among key (key_ids t)) (leb max_records (length t))

module _ (s : List ℕ) (n : Numbers) (m key : List ℕ) (t : records.Table) where
  pub register_checked : Checked register s n m key t (register_list s n m key t)
      (λ l. record { answer = draft (register_draft s l); change = add l.key_id (field_in username s) })
  unfolding decide decide_register register_checks
  register_checked = record { by = λ a d p x. refl }

  module _ {p : Params} (q : ParamsRead register s p) (e : passed ≡ judge (register_list s n m key t) refused passed) where
    register-passed : (broken register s ≡ false) × (leb max_records (length t) ≡ false)
    unfolding register_checks
    register-passed =
        let h = judge_passed (register_list s n m key t) tt e in
        (h.0, or_right (leb max_own (length (own m t))) _ h.1.1.1.1.0)

    -- a record more with the command's name
    pub registered : {chosen : List ℕ} → length m ≡ 32 → length key ≡ 32
        → Decides register s n m key t p chosen (decision Registration 0 (Add p.username))
    unfolding answer_of
    registered g h =
        let b = register-passed.0 in
        let f = q.unless_broken b in
        names_none register_checked e (λ l. rw f.username.value)
        (refl, quoted_placed register b refl f)
        (record {
          inside = f.username.inside;
          short = placed_short register username b refl f.username;
          key-id = h;
          mixed = g;
          place = omega (arith, leb-false max_records (length t) register-passed.1);
        })

-- ---- Deregister

module _ (s : List ℕ) (n : Numbers) (m key : List ℕ) (t : records.Table) where
  pub deregister_checked : Checked deregister s n m key t (deregister_checks s (own m t))
      (λ l. only deregister (removal (field_in key_id_or_none s)) 0x00)
  unfolding decide decide_deregister
  deregister_checked = record { by = λ a d p x. refl }

  -- what is removed is told by the command's KeyID
  pub deregistered : {p : Params} {c : Params} {chosen : List ℕ} → ParamsRead deregister s p → passed ≡ judge (deregister_checks s (own m t)) refused passed
      → Decides deregister s n m key t c chosen (decision (Status 0x00) 0 (Remove p.key_id))
  unfolding answer_of only
  deregistered q e =
      let k = (q.unless_broken (judge_passed (deregister_checks s (own m t)) tt e).0).key-id in
      names_none deregister_checked e (λ l. rw k.value) tt k.inside
