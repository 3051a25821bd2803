-- The separation of holders: a holder's answers and records are what its own calls alone give, over its own records.
-- Assumes nothing.
use mathlib.Core.Path.{◌≡◌, refl, sym, ap, ◌∙◌}
use mathlib.Core.Bool.{Bool, true, false, not, cond, ◌&&◌}
use mathlib.Core.List.{List, [], ◌∷◌, append-nil}
use mathlib.Core.Logic.{◌⊎◌, inl, inr}
use mathlib.Core.Option.{Option, none, some, get_or}
use Prim.Native.Nat.{ℕ}
use lib.ListN.{length}
use lib.Dec.{leb, ltb}
use borrow.Author.Tests.{ltb-true, lt-leb, not-true}
use Rattle.model.specs.Lists.{all, cons_if, empty, eq_bytes, among}
use Rattle.model.specs.Tlv.{Kind, get_info, register, sign, deregister, open_settings, kinds, is_command, kind_of, key_id_or_none, field_in, fits, key_id, mixed_token}
use Rattle.model.specs.Records.{Record, Table, own, key_ids, has_mixed, table_ok, max_records}
use Rattle.model.specs.Commands.{Lent, Call, mixed_of, Check, check, judge, Result, refused, gave, on_gave, short_table, Change, keep, add, set_count, remove, remove_all, is_key, with_count, apply, Decision, only, decide_get_info, decide_register, sign_one, sign_chosen, decide_sign, decide_deregister, decide_open_settings, decide, perform, value, table_of, kind, refusals, outcome}
use Rattle.model.specs.Withdrawals.{Withdrawal, withdrawal_checks, withdraw_refusals, withdraw}
use Rattle.model.specs.Traces.{Act, commands, withdraws, Form, itself, in_stored_form, Step, handed, Told, wrote, done, Outcome, outcome_of, result, left_by, next, final, is_holders, owner, is_holder, is_of, calls_of, Seen, observe, registers, key_lent, fresh, roomy, SeparationOfHolders}
use Rattle.model.proofs.Basics.{Each, split, clash, and_left, and_right, both, not-not, eq_bytes-eq, eq_bytes-refl, eq_bytes_sym, all_same, all_append, all-select, select-append, select_comm, select_narrow, select-map, map-select, all_map, first_passes, judged, judge-map}
use Rattle.model.proofs.StoredForm.{decode-encode}
use Rattle.model.proofs.HashLaws.{strangers, owned}
use Rattle.model.proofs.Kept.{next_kept}

-- ---- selections and changes

-- what `set_count` does to each record leaves its mixed token and its KeyID
abbrev counted : List ℕ → List ℕ → ℕ → Record → Record
counted m k n r = cond (is_key m k r) (with_count r n) r

counted_mixed : (m k : List ℕ) (n : ℕ) (h : List ℕ) (r : Record) → has_mixed h (counted m k n r) ≡ has_mixed h r
counted_mixed m k n h r = split (is_key m k r) (λ e. rw e) (λ e. rw e)

not-mine : (m h : List ℕ) → eq_bytes m h ≡ false → (r : Record) → has_mixed h r ≡ true → has_mixed m r ≡ false
not-mine m h e r p = rw (eq_bytes-eq r.mixed h p) (eq_bytes_sym h m ∙ e)

-- a change works on the caller's records as if they were all
pub own-apply : (m : List ℕ) (c : Change) (t : Table) → own m (apply m c t) ≡ apply m c (own m t)
unfolding own apply
own-apply m keep t = refl
own-apply m (add k n) t = select-append (has_mixed m) t _ ∙ rw (eq_bytes-refl m)
own-apply m (set_count k n) t = select-map (has_mixed m) (counted m k n) (counted_mixed m k n m) t
own-apply m (remove k) t = select_comm (has_mixed m) _ t
own-apply m remove_all t = select_comm (has_mixed m) _ t

-- and it leaves another holder's records
pub other_apply : (m h : List ℕ) → eq_bytes m h ≡ false → (c : Change) (t : Table) → own h (apply m c t) ≡ own h t
unfolding own apply
other_apply m h e keep t = refl
other_apply m h e (add k n) t = select-append (has_mixed h) t _ ∙ rw e (append-nil (own h t))
other_apply m h e (set_count k n) t =
    select-map (has_mixed h) (counted m k n) (counted_mixed m k n h) t ∙ map-select (has_mixed h) (counted m k n) (λ r p. rw (not-mine m h e r p)) t
other_apply m h e (remove k) t = select_narrow (has_mixed h) _ (λ r p. rw (not-mine m h e r p)) t
other_apply m h e remove_all t = select_narrow (has_mixed h) _ (λ r p. rw (not-mine m h e r p)) t

-- ---- what is decided

-- only Register asks whether the KeyID is stored and whether the table is full
decide_free : (k : Kind) (s : List ℕ) (l : Lent) (mine : Table) (taken filled : Bool)
    → (k ≡ register → (taken ≡ false) × (filled ≡ false)) → decide k s l mine taken filled ≡ decide k s l mine false false
unfolding decide
decide_free get_info s l mine taken filled h = refl
decide_free register s l mine taken filled h = rw ((h refl).0, (h refl).1)
decide_free sign s l mine taken filled h = refl
decide_free deregister s l mine taken filled h = refl
decide_free open_settings s l mine taken filled h = refl

-- the KeyIDs of the records are among those lent; so is that of a change that adds one
abbrev lent_in : List (List ℕ) → Table → Bool
lent_in seen t = all (λ r. among r.key_id seen) t

abbrev adds_lent : List (List ℕ) → Change → Bool
adds_lent seen keep = true
adds_lent seen (add k n) = among k seen
adds_lent seen (set_count k n) = true
adds_lent seen (remove k) = true
adds_lent seen remove_all = true

apply-lent : (seen : List (List ℕ)) (m : List ℕ) (c : Change) (t : Table) → adds_lent seen c ≡ true → lent_in seen t ≡ true
    → lent_in seen (apply m c t) ≡ true
unfolding apply
apply-lent seen m keep t a e = e
apply-lent seen m (add k n) t a e = all_append _ t _ e (both a refl)
apply-lent seen m (set_count k n) t a e =
    all_map _ (counted m k n) (λ r q. split (is_key m k r) (λ d. rw d q) (λ d. rw d q)) t e
apply-lent seen m (remove k) t a e = all-select _ _ t e
apply-lent seen m remove_all t a e = all-select _ _ t e

module _ (seen : List (List ℕ)) where
  -- a decision adds no record but with a KeyID that was lent
  abbrev Adds : Decision → Type 0
  Adds d = adds_lent seen d.change ≡ true

  adds_only : (k : Kind) (c : Change) → adds_lent seen c ≡ true → (n : ℕ) → Adds (only k c n)
  unfolding only
  adds_only k c e n = e

  adds_chosen : (s : List ℕ) (l : Lent) (rs : Table) → Adds (sign_chosen s l rs)
  unfolding sign_chosen sign_one
  adds_chosen s l [] = adds_only sign keep refl 0x02
  adds_chosen s l (r ∷ []) = judged Adds _ _ _ (adds_only sign keep refl) (λ k. refl)
  adds_chosen s l (r ∷ q ∷ rs) = refl

  adds_decide : (k : Kind) (s : List ℕ) (l : Lent) (mine : Table) (taken filled : Bool) → (k ≡ register → among l.key_id seen ≡ true)
      → Adds (decide k s l mine taken filled)
  unfolding decide decide_get_info decide_register decide_sign decide_deregister decide_open_settings
  adds_decide get_info s l mine taken filled h = judged Adds _ _ _ (adds_only get_info keep refl) (λ k. refl)
  adds_decide register s l mine taken filled h = judged Adds _ _ _ (adds_only register keep refl) (λ k. h refl)
  adds_decide sign s l mine taken filled h = judged Adds _ _ _ (adds_only sign keep refl) (λ k. adds_chosen s l _)
  adds_decide deregister s l mine taken filled h =
      judged Adds _ _ _ (adds_only deregister keep refl)
      (λ k. adds_only deregister _ (split (empty (field_in key_id_or_none s)) (λ e. rw e) (λ e. rw e)) 0x00)
  adds_decide open_settings s l mine taken filled h =
      judged Adds _ _ _ (adds_only open_settings keep refl) (λ k. adds_only open_settings keep refl 0x06)

-- ---- one call

-- a table that obeys the rules is the same table in either form
pub handed-same : (f : Form) (t : Table) → table_ok t ≡ true → table_of (handed f t) ≡ some t
unfolding table_of
handed-same itself t e = rw e
handed-same in_stored_form t e = decode-encode t e

-- what a call decides: what its holder is told, and the change
pub record Ruling : Type 0 where
  pub told : Told
  pub change : Change

-- the checks of a withdrawal that is given a table that obeys the rules
abbrev withdraw_checks : Withdrawal → (mine : Table) → List Check
withdraw_checks w mine =
    check 1 (short_table w.table_output) ∷ check 4 (not (fits mixed_token w.mixed && fits key_id w.key_id)) ∷ withdrawal_checks w.key_id mine

-- by the records of its mixed token and two facts about the rest, on a table that obeys the rules; the table itself is not looked at
unfoldable pub ruling : Act → (mine : Table) (taken filled : Bool) → Result Ruling
ruling (commands c) mine taken filled =
    let d = decide (kind c) c.command c.lent mine taken filled in
    judge (refusals c (value [])) refused (gave (record { told = wrote d.answer; change = d.change }))
ruling (withdraws w) mine taken filled =
    judge (withdraw_checks w mine) refused (gave (record { told = done; change = remove w.key_id }))

-- and it made for mixed token m
abbrev pub made : List ℕ → Table → Result Ruling → Result Outcome
made m t r = on_gave (λ d. record { told = d.told; left = apply m d.change t }) r

-- the mixed token of a call, with those of commands by w
abbrev pub token_by : (Call → List ℕ) → Act → List ℕ
token_by w (commands c) = w c
token_by w (withdraws v) = v.mixed

abbrev token_of : Act → List ℕ
token_of a = token_by mixed_of a

-- what a call decides on a table, whose records of mixed token m are the caller's
abbrev pub ruling_for : List ℕ → Act → Table → Result Ruling
ruling_for m a t = ruling a (own m t) (among (key_lent a) (key_ids t)) (leb max_records (length t))

on_judge : {A B : Type 0} (f : A → B) (cs : List Check) (x : A) → on_gave f (judge cs refused (gave x)) ≡ judge cs refused (gave (f x))
on_judge f cs x = judge-map (on_gave f) cs refused (gave x)

act-is : (a : Act) (f : Form) (t : Table) → table_ok t ≡ true → outcome_of a (handed f t) ≡ made (token_of a) t (ruling_for (token_of a) a t)
unfolding outcome refusals perform withdraw withdraw_refusals ruling table_of table_ok
act-is (commands c) f t e =
    rw (handed-same f t e) (on_judge _ (refusals c (value [])) _ ∙ sym (on_judge _ (refusals c (value [])) _))
act-is (withdraws w) f t e =
    rw (handed-same f t e)
    (unfold judge in on_judge _ (check 2 false ∷ withdraw_checks w (own w.mixed t)) _ ∙ sym (on_judge _ (withdraw_checks w (own w.mixed t)) _))

result-is : (s : Step) (t : Table) → table_ok t ≡ true → result s t ≡ made (token_of s.act) t (ruling_for (token_of s.act) s.act t)
unfolding result
result-is s t e = act-is s.act s.form t e

-- the change of a call: none if it is refused
abbrev changed : Result Ruling → Change
changed (refused n) = keep
changed (gave d) = d.change

made_told : (m : List ℕ) (t : Table) (r : Result Ruling) → on_gave (λ o. o.told) (made m t r) ≡ on_gave (λ d. d.told) r
made_told m t (refused n) = refl
made_told m t (gave d) = refl

made_left : (m : List ℕ) (t : Table) (r : Result Ruling) → left_by (made m t r) t ≡ apply m (changed r) t
unfolding apply
made_left m t (refused n) = refl
made_left m t (gave d) = refl

next-is : (s : Step) (t : Table) → table_ok t ≡ true → next s t ≡ apply (token_of s.act) (changed (ruling_for (token_of s.act) s.act t)) t
unfolding next
next-is s t e = rw (result-is s t e) (made_left (token_of s.act) t (ruling_for (token_of s.act) s.act t))

-- ---- whose it is

-- the owner's mixed token is that of the call
owner_token : (h : List ℕ) (a : Act) → is_holder h (owner a) ≡ true → token_of a ≡ h
owner_token h (commands c) o = eq_bytes-eq (mixed_of c) h (and_right (is_holders c) _ (sym (owned h (is_holders c) (mixed_of c)) ∙ o))
owner_token h (withdraws w) o =
    eq_bytes-eq w.mixed h (and_right (fits mixed_token w.mixed) _ (sym (owned h (fits mixed_token w.mixed) w.mixed) ∙ o))

-- a call that is not the holder's has another mixed token, or changes nothing
stranger_changes : (h : List ℕ) (a : Act) → is_holder h (owner a) ≡ false → (mine : Table) (taken filled : Bool)
    → (eq_bytes (token_of a) h ≡ false) ⊎ (changed (ruling a mine taken filled) ≡ keep)
unfolding ruling is_holders
stranger_changes h (commands c) o mine taken filled =
    split (is_holders c)
    (λ b. inl (rw b at (sym (owned h (is_holders c) (mixed_of c)) ∙ o)))
    (λ b. inr (judged (λ r. changed r ≡ keep) (refusals c (value [])) refused _ (λ n. refl)
    (λ p. (strangers (kind c) c.command b c.lent mine taken filled).keeps)))
stranger_changes h (withdraws w) o mine taken filled =
    split (fits mixed_token w.mixed)
    (λ b. inl (rw b at (sym (owned h (fits mixed_token w.mixed) w.mixed) ∙ o)))
    (λ b. inr (judged (λ r. changed r ≡ keep) _ refused _ (λ n. refl)
    (λ p. clash (and_left (fits mixed_token w.mixed) _ (not-not _ p.1.0)) b)))

-- it leaves the holder's records
pub next_other : (h : List ℕ) (s : Step) (t : Table) → table_ok t ≡ true → is_of h s ≡ false → own h (next s t) ≡ own h t
unfolding apply
next_other h s t e o =
    ap (own h) (next-is s t e)
    ∙ go (stranger_changes h s.act o (own (token_of s.act) t) (among (key_lent s.act) (key_ids t)) (leb max_records (length t)))
  where
    go : (eq_bytes (token_of s.act) h ≡ false) ⊎ (changed (ruling_for (token_of s.act) s.act t) ≡ keep)
        → own h (apply (token_of s.act) (changed (ruling_for (token_of s.act) s.act t)) t) ≡ own h t
    go (inl d) = other_apply (token_of s.act) h d (changed (ruling_for (token_of s.act) s.act t)) t
    go (inr k) = rw k

-- ---- a holder's call over its own records

-- what is decided as a Register is one by its outer tag
named : (s : List ℕ) (o : Option Kind) → kind_of s ≡ o → get_or o get_info ≡ register → is_command s register ≡ true
unfolding kind_of
named s none e k = cc
named s (some x) e k = first_passes (is_command s) kinds register (e ∙ ap some k)

registered : (c : Call) → kind c ≡ register → is_command c.command register ≡ true
registered c k = named c.command (kind_of c.command) refl k

-- only a Register asks whether its KeyID is stored and whether the table is full
ruling_free : (a : Act) (mine : Table) (taken filled : Bool) → (registers a ≡ true → (taken ≡ false) × (filled ≡ false))
    → ruling a mine taken filled ≡ ruling a mine false false
unfolding ruling
ruling_free (commands c) mine taken filled h =
    rw (decide_free (kind c) c.command c.lent mine taken filled (λ k. h (registered c k)))
ruling_free (withdraws w) mine taken filled h = refl

-- what a holder's call alone decides over its own records, with its KeyID new and room in the table; and the records it leaves
abbrev alone : Act → Table → Result Ruling
alone a mine = ruling a mine false false

abbrev left_alone : Act → Table → Table
left_alone a mine = apply (token_of a) (changed (alone a mine)) mine

-- a call that registers finds its KeyID new and room in the table
abbrev Free : Act → Table → Type 0
Free a t = registers a ≡ true → (among (key_lent a) (key_ids t) ≡ false) × (leb max_records (length t) ≡ false)

module _ (s : Step) (t : Table) (e : table_ok t ≡ true) (free : Free s.act t) where
  abbrev mine : Table
  mine = own (token_of s.act) t

  ruled_alone : ruling_for (token_of s.act) s.act t ≡ alone s.act mine
  ruled_alone = ruling_free s.act mine _ _ free

  answer-alone : on_gave (λ o. o.told) (result s t) ≡ on_gave (λ d. d.told) (alone s.act mine)
  answer-alone =
      ap (on_gave (λ o. o.told)) (result-is s t e) ∙ made_told (token_of s.act) t (ruling_for (token_of s.act) s.act t) ∙ ap (on_gave (λ d. d.told)) ruled_alone

  left_alone_lem : own (token_of s.act) (next s t) ≡ left_alone s.act mine
  left_alone_lem =
      ap (own (token_of s.act)) (next-is s t e) ∙ own-apply (token_of s.act) _ t
      ∙ ap (λ r. apply (token_of s.act) (changed r) mine) ruled_alone

-- ---- the rest of a trace

-- what holds at each call: the rules, and what is asked of the rest; seen are the KeyIDs lent so far
record Going (h : List ℕ) (seen : List (List ℕ)) (ss : List Step) (t : Table) : Type 0 where
  rules : table_ok t ≡ true
  lent : lent_in seen t ≡ true
  new : fresh seen ss ≡ true
  room : roomy h ss t ≡ true

-- a KeyID not yet lent is not stored
not-stored : (k : List ℕ) (seen : List (List ℕ)) → among k seen ≡ false → (t : Table) → lent_in seen t ≡ true → among k (key_ids t) ≡ false
not-stored k seen n [] e = refl
not-stored k seen n (r ∷ t) e =
    let ih = not-stored k seen n t (and_right (among r.key_id seen) _ e) in
    split (eq_bytes r.key_id k)
    (λ d. clash (rw (eq_bytes-eq r.key_id k d) at (and_left (among r.key_id seen) _ e)) n)
    (λ d. cc)

-- a call adds no record but with the KeyID that it is lent as a Register
ruling_adds : (seen : List (List ℕ)) (a : Act) (mine : Table) (taken filled : Bool) → (registers a ≡ true → among (key_lent a) seen ≡ true)
    → adds_lent seen (changed (ruling a mine taken filled)) ≡ true
unfolding ruling
ruling_adds seen (commands c) mine taken filled h =
    judged (λ r. adds_lent seen (changed r) ≡ true) (refusals c (value [])) refused _ (λ n. refl)
    (λ p. adds_decide seen (kind c) _ _ _ _ _ (λ k. h (registered c k)))
ruling_adds seen (withdraws w) mine taken filled h =
    judged (λ r. adds_lent seen (changed r) ≡ true) _ refused _ (λ n. refl) (λ p. refl)

-- the KeyIDs lent after a call
after : Step → List (List ℕ) → List (List ℕ)
after s seen = cond (registers s.act) (key_lent s.act ∷ seen) seen

module _ (h : List ℕ) (seen : List (List ℕ)) (s : Step) (ss : List Step) (t : Table) (g : Going h seen (s ∷ ss) t) where
  abbrev lent_now : List ℕ
  lent_now = key_lent s.act

  free : is_of h s ≡ true → Free s.act t
  unfolding fresh roomy
  free o r =
      let n = not-true (among lent_now seen) (and_left _ _ (rw r at g.new)) in
      let l = ltb-true (length t) max_records (and_left (ltb (length t) max_records) _ (rw (o, r) at g.room)) in
      (not-stored lent_now seen n t g.lent, lt-leb _ _ l)

  lent_still : lent_in (after s seen) t ≡ true
  unfolding after
  lent_still =
      split (registers s.act)
      (λ r. rw r (all_same (λ q e. split (eq_bytes lent_now q.key_id) (λ d. cc) (λ d. cc)) t g.lent))
      (λ r. rw r g.lent)

  lent-now : registers s.act ≡ true → among lent_now (after s seen) ≡ true
  unfolding after
  lent-now r = rw (r, eq_bytes-refl lent_now)

  lent-next : lent_in (after s seen) (next s t) ≡ true
  lent-next =
      rw (next-is s t g.rules)
      (apply-lent (after s seen) (token_of s.act) _ t (ruling_adds (after s seen) s.act _ _ _ lent-now) lent_still)

  going : Going h (after s seen) ss (next s t)
  unfolding fresh roomy after
  going =
      record {
        rules = next_kept s t g.rules;
        lent = lent-next;
        new = and_right (not (registers s.act && among lent_now seen)) _ g.new;
        room = and_right (cond (is_of h s && registers s.act) (ltb (length t) max_records) true) _ g.room;
      }

-- ---- the whole trace

observe_alone : List Act → Table → List Seen
observe_alone [] t = []
observe_alone (a ∷ rest) t =
    record { answer = on_gave (λ d. d.told) (alone a t); records = left_alone a t } ∷ observe_alone rest (left_alone a t)

final_alone : List Act → Table → Table
final_alone [] t = t
final_alone (a ∷ rest) t = final_alone rest (left_alone a t)

record Alone (h : List ℕ) (ss : List Step) (t : Table) : Type 0 where
  answers : observe h ss t ≡ observe_alone (calls_of h ss) (own h t)
  records : own h (final ss t) ≡ final_alone (calls_of h ss) (own h t)

by_itself : (h : List ℕ) (seen : List (List ℕ)) (ss : List Step) (t : Table) → Going h seen ss t → Alone h ss t
unfolding observe final calls_of observe_alone final_alone
by_itself h seen [] t g = record { answers = refl; records = refl }
by_itself h seen (s ∷ ss) t g =
    let ih = by_itself h (after s seen) ss (next s t) (going h seen s ss t g) in
    split (is_of h s)
    (λ o. let m = owner_token h s.act o in
    let a = answer-alone s t g.rules (free h seen s ss t g o) in
    let l = left_alone_lem s t g.rules (free h seen s ss t g o) in
    record { answers = cc; records = cc })
    (λ o. let k = next_other h s t g.rules o in record { answers = cc; records = cc })

pub separation : SeparationOfHolders
unfolding table_ok own
separation h a b c =
    let p = by_itself h [] a [] (record { rules = refl; lent = refl; new = c.fresh-a; room = c.roomy-a }) in
    let q = by_itself h [] b [] (record { rules = refl; lent = refl; new = c.fresh-b; room = c.roomy-b }) in
    record { seen = cc; records = cc }

-- ---- a trace run with no check of the table, which computes in a third of the time: a table that obeys the rules needs none; and with the mixed tokens
-- of commands said by w, so that no hash is computed more than once

-- what a holder sees, its calls, whether it finds room, its records at the end, and how many there are in all; the same with a call before, which is the holder's or not
pub record Run : Type 0 where
  pub seen : List Seen
  pub calls : List Act
  pub room : Bool
  pub records : Table
  pub size : ℕ

abbrev pub before : Bool → List ℕ → Step → Table → Result Outcome → Run → Run
before mine h s t r rest =
    record {
      seen = cond mine (record { answer = on_gave (λ o. o.told) r; records = own h (left_by r t) } ∷ rest.seen) rest.seen;
      calls = cons_if mine s.act rest.calls;
      room = cond (mine && registers s.act) (ltb (length t) max_records) true && rest.room;
      records = rest.records;
      size = rest.size;
    }

abbrev owner_by : (Call → List ℕ) → Act → Option (List ℕ)
owner_by w (commands c) = cond (is_holders c) (some (w c)) none
owner_by w (withdraws v) = owner (withdraws v)

abbrev pub run : (Call → List ℕ) → List ℕ → List Step → Table → Run
run w h [] t = record { seen = []; calls = []; room = true; records = own h t; size = length t }
run w h (s ∷ ss) t =
    let m = token_by w s.act in
    let r = made m t (ruling_for m s.act t) in
    before (is_holder h (owner_by w s.act)) h s t r (run w h ss (left_by r t))

-- w says the mixed token of a command
abbrev pub Said : (Call → List ℕ) → Act → Type 0
Said w (commands c) = w c ≡ mixed_of c
Said w (withdraws v) = Unit {0}

abbrev pub Says : (Call → List ℕ) → List Step → Type 0
Says w ss = Each (λ s. Said w s.act) ss

said_token : (w : Call → List ℕ) (a : Act) → Said w a → token_by w a ≡ token_of a
said_token w (commands c) e = e
said_token w (withdraws v) e = refl

said-owner : (w : Call → List ℕ) (a : Act) → Said w a → owner_by w a ≡ owner a
said-owner w (commands c) e = rw e
said-owner w (withdraws v) e = refl

calls-of : (h : List ℕ) (s : Step) (ss : List Step) → calls_of h (s ∷ ss) ≡ cons_if (is_of h s) s.act (calls_of h ss)
unfolding calls_of
calls-of h s ss = split (is_of h s) (λ e. rw e) (λ e. rw e)

-- what they are of a trace
abbrev pub true_run : List ℕ → List Step → Table → Run
true_run h ss t =
    record { seen = observe h ss t; calls = calls_of h ss; room = roomy h ss t; records = own h (final ss t); size = length (final ss t) }

pub run_is : (w : Call → List ℕ) (h : List ℕ) (ss : List Step) (t : Table) → Says w ss → table_ok t ≡ true → true_run h ss t ≡ run w h ss t
unfolding observe roomy final next
run_is w h [] t u e = unfold calls_of in refl
run_is w h (s ∷ ss) t u e =
    rw (calls-of h s ss)
    (ap (before (is_of h s) h s t (result s t)) (run_is w h ss (next s t) u.1 (next_kept s t e))
    ∙ rw (result-is s t e, said_token w s.act u.0, said-owner w s.act u.0))
