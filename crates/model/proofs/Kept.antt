-- Every call leaves a table that obeys the rules; a refusal changes nothing; a status other than OK leaves the table.
-- Assumes nothing.
use mathlib.Core.Path.{◌≡◌, refl, ap, ◌∙◌}
use mathlib.Core.Bool.{Bool, true, false, not, cond, ◌&&◌, ◌||◌}
use mathlib.Core.List.{List, [], ◌∷◌, ◌++◌, map}
use mathlib.Core.Option.{Option, none, some, get_or}
use Prim.Native.Nat.{ℕ, ◌+◌, ◌≤◌, ◌<◌}
use native.Mathlib.Numerals.{lt_of_le_of_ne}
use native.Mathlib.Omega.{arith}
use lib.ListN.{length, take, drop, length-append, length-map}
use lib.Dec.{leb}
use borrow.Author.Tests.{leb-false, le-leb, eqb-false, not-true}
use Rattle.model.specs.Lists.{all, select, given, empty, eq_bytes, among, distinct}
use Rattle.model.specs.Tlv.{num, le, fits, key_id, mixed_token, username, key_id_or_none, bytes, Kind, get_info, register, sign, deregister, open_settings, broken, field_in}
use Rattle.model.specs.Layouts.{fill, write}
use Rattle.model.specs.Records.{Record, Table, max_count, max_records, max_own, record_ok, has_mixed, own, key_ids, table_ok}
use Rattle.model.specs.Commands.{Call, Given, value, stored, mixed_of, Result, refused, gave, on_gave, Answer, response, draft, Change, keep, add, set_count, remove, remove_all, is_key, with_count, apply, Decision, only, sign_one, sign_chosen, chosen, decide, decide_get_info, register_checks, decide_register, decide_sign, decide_deregister, decide_open_settings, Effect, outcome, perform, lent_ok, table_of, kind, refusals}
use Rattle.model.specs.Withdrawals.{Withdrawal, withdraw_refusals, withdraw}
use Rattle.model.specs.Traces.{Act, commands, withdraws, wrote, done, outcome_of, Step, handed, result, next, left_by}
use Rattle.model.proofs.Basics.{split, clash, and_left, and_right, both, or_left, or_right, not-not, eq_bytes-eq, eq_bytes_sym, all_append, all_map, select-append, select_comm, all-select, length-select, select-map, judged, impossible}
use Rattle.model.proofs.StoredForm.{decode-ok}
use Rattle.model.proofs.HashLaws.{mixed-fits}
use Rattle.model.proofs.Rules.{record_rules, Tests, tests, tested}
use Rattle.model.proofs.Fields.{field_fits}

-- ---- the table of a call that is given one obeys the rules

pub guarded : {A : Type 0} (b : Bool) {x y : A} → cond b (some x) none ≡ some y → (b ≡ true) × (x ≡ y)
guarded true e = (refl, cc)
guarded false e = impossible cc

pub given-ok : (g : Given) (t : Table) → table_of g ≡ some t → table_ok t ≡ true
unfolding table_of
given-ok (value u) t e = let g : (table_ok u ≡ true) × (u ≡ t) = guarded _ e in rw g.1 at g.0
given-ok (stored s) t e = decode-ok s t e

-- ---- each change keeps the rules

among-select : (x : List ℕ) (p : Record → Bool) (t : Table) → among x (key_ids t) ≡ false → among x (key_ids (select p t)) ≡ false
among-select x p [] e = refl
among-select x p (r ∷ t) e =
    let h : eq_bytes r.key_id x ≡ false = or_left _ (among x (key_ids t)) e in
    let ih : among x (key_ids (select p t)) ≡ false = among-select x p t (or_right (eq_bytes r.key_id x) _ e) in
    split (p r) (λ f. rw (f, h) ih) (λ f. rw f ih)

distinct-select : (p : Record → Bool) (t : Table) → distinct (key_ids t) ≡ true → distinct (key_ids (select p t)) ≡ true
distinct-select p [] e = refl
distinct-select p (r ∷ t) e =
    let h : among r.key_id (key_ids t) ≡ false = not-true _ (and_left _ (distinct (key_ids t)) e) in
    let ih : distinct (key_ids (select p t)) ≡ true = distinct-select p t (and_right (not (among r.key_id (key_ids t))) _ e) in
    split (p r) (λ f. rw (f, among-select r.key_id p t h) ih) (λ f. rw f ih)

pub select_keeps : (p : Record → Bool) (t : Table) → Tests t → Tests (select p t)
unfolding own
select_keeps p t h =
    record {
      few = omega (arith, length-select p t);
      each = all-select record_ok p t h.each;
      own-few = λ m. rw (select_comm (has_mixed m) p t) (omega (arith, length-select p (own m t), h.own-few m));
      once = distinct-select p t h.once;
    }

-- a table has room for one more record
record Room (t : Table) (r : Record) : Type 0 where
  few : length t < max_records
  own-few : length (own r.mixed t) < max_own
  ok : record_ok r ≡ true
  new : among r.key_id (key_ids t) ≡ false

among-add : (x : List ℕ) (t : Table) (r : Record) → among x (key_ids t) ≡ false → eq_bytes r.key_id x ≡ false
    → among x (key_ids (t ++ (r ∷ []))) ≡ false
among-add x [] r e f = rw f
among-add x (q ∷ t) r e f =
    let h : eq_bytes q.key_id x ≡ false = or_left _ (among x (key_ids t)) e in
    rw h (among-add x t r (or_right (eq_bytes q.key_id x) _ e) f)

distinct-add : (t : Table) (r : Record) → distinct (key_ids t) ≡ true → among r.key_id (key_ids t) ≡ false
    → distinct (key_ids (t ++ (r ∷ []))) ≡ true
distinct-add [] r e f = refl
distinct-add (q ∷ t) r e f =
    let h : among q.key_id (key_ids t) ≡ false = not-true _ (and_left _ (distinct (key_ids t)) e) in
    let g : eq_bytes r.key_id q.key_id ≡ false = eq_bytes_sym r.key_id q.key_id ∙ or_left _ (among r.key_id (key_ids t)) f in
    rw (among-add q.key_id t r h g)
    (distinct-add t r (and_right (not (among q.key_id (key_ids t))) _ e) (or_right (eq_bytes q.key_id r.key_id) _ f))

add_keeps : (t : Table) (r : Record) → Room t r → Tests t → Tests (t ++ (r ∷ []))
unfolding own
add_keeps t r n h =
    record {
      few = rw length-append (omega arith);
      each = all_append record_ok t (r ∷ []) h.each (both n.ok refl);
      own-few = λ m. rw (select-append (has_mixed m) t (r ∷ []), length-append) (own-few m);
      once = distinct-add t r h.once n.new;
    }
  where
    own-few : (m : List ℕ) → length (own m t) + length (own m (r ∷ [])) ≤ max_own
    own-few m =
        split (has_mixed m r)
        (λ e. rw (e, ← eq_bytes-eq r.mixed m e) (omega (arith, n.own-few)))
        (λ e. rw e (omega (arith, h.own-few m)))

-- a change of records that leaves KeyIDs and mixed tokens
module _ (f : Record → Record) (key : (r : Record) → (f r).key_id ≡ r.key_id) (mixed : (r : Record) → (f r).mixed ≡ r.mixed) where
  map-key_ids : (t : Table) → key_ids (map f t) ≡ key_ids t
  map-key_ids [] = refl
  map-key_ids (r ∷ t) = cc (key r, map-key_ids t)

  map_keeps : ((r : Record) → record_ok r ≡ true → record_ok (f r) ≡ true) → (t : Table) → Tests t → Tests (map f t)
  unfolding own
  map_keeps ok t h =
      record {
        few = rw length-map h.few;
        each = all_map record_ok f ok t h.each;
        own-few = λ m. rw (select-map (has_mixed m) f (λ r. ap (λ (x : List ℕ). eq_bytes x m) (mixed r)) t, length-map) (h.own-few m);
        once = rw (map-key_ids t) h.once;
      }

count-ok : (r : Record) (n : ℕ) → n ≤ max_count → record_ok r ≡ true → record_ok (with_count r n) ≡ true
unfolding record_ok
count-ok r n h e =
    let b : Bool = fits key_id r.key_id && fits mixed_token r.mixed && fits username r.name in
    both {a = b} (and_left b (leb r.count max_count) e) (le-leb n max_count h)

-- when a change keeps the rules
abbrev Allowed : List ℕ → Table → Change → Type 0
Allowed m t keep = Unit {0}
Allowed m t (add k n) = Room t (record { key_id = k; mixed = m; name = n; count = 0 })
Allowed m t (set_count k n) = n ≤ max_count
Allowed m t (remove k) = Unit {0}
Allowed m t remove_all = Unit {0}

apply_keeps : (m : List ℕ) (c : Change) (t : Table) → Allowed m t c → Tests t → Tests (apply m c t)
unfolding apply
apply_keeps m keep t a h = h
apply_keeps m (add k n) t a h = add_keeps t _ a h
apply_keeps m (set_count k n) t a h =
    map_keeps (λ r. cond (is_key m k r) (with_count r n) r)
    (λ r. split (is_key m k r) (λ e. rw e) (λ e. rw e))
    (λ r. split (is_key m k r) (λ e. rw e) (λ e. rw e))
    (λ r e. split (is_key m k r) (λ f. rw f (count-ok r n a e)) (λ f. rw f e))
    t h
apply_keeps m (remove k) t a h = select_keeps (λ r. not (is_key m k r)) t h
apply_keeps m remove_all t a h = select_keeps (λ r. not (has_mixed m r)) t h

-- ---- each decision is of a change that is allowed, and of none where the status is not OK

-- the status stands at the same place in every response
abbrev pub status_of : Answer → ℕ
status_of (response s) = num (take 2 (drop 8 s))
status_of (draft s) = 0

module _ (c : Call) (t : Table) where
  record Sound (d : Decision) : Type 0 where
    allowed : Allowed (mixed_of c) t d.change
    quiet : (status_of d.answer ≡ 0 → ⊥) → d.change ≡ keep

  -- a check that fails
  failed : (k : Kind) (n : ℕ) → Sound (only k keep n)
  unfolding only
  failed k n = record { allowed = tt; quiet = λ h. refl }

  -- "appended with counter 0"
  register-room : lent_ok register c.lent ≡ true → broken register c.command ≡ false
      → among c.lent.key_id (key_ids t) ≡ false → (leb max_own (length (own (mixed_of c) t)) || leb max_records (length t)) ≡ false
      → Room t (record { key_id = c.lent.key_id; mixed = mixed_of c; name = field_in username c.command; count = 0 })
  unfolding lent_ok record_ok
  register-room l b n f =
      let m : fits mixed_token (mixed_of c) ≡ true = mixed-fits c.command in
      let k : fits key_id c.lent.key_id ≡ true = search (and_left, and_right) in
      record {
        few = leb-false _ _ (or_right (leb max_own (length (own (mixed_of c) t))) _ f);
        own-few = leb-false _ _ (or_left (leb max_own (length (own (mixed_of c) t))) _ f);
        ok = both (both (both k m) (field_fits register c.command username b refl)) refl;
        new = n;
      }

  -- the records go with an OK
  removed : (b : Bool) (k : List ℕ) → Sound (only deregister (cond b remove_all (remove k)) 0x00)
  unfolding only write fill bytes le num
  removed true k = record { allowed = tt; quiet = λ h. absurd (h refl) }
  removed false k = record { allowed = tt; quiet = λ h. absurd (h refl) }

  sign-one : (r : Record) → r.count ≤ max_count → Sound (sign_one c.command c.lent r)
  unfolding sign_one
  sign-one r e =
      judged Sound _ (only sign keep) _ (failed sign)
      (λ p. record { allowed = lt_of_le_of_ne e (eqb-false r.count max_count p.1.0); quiet = λ h. absurd (h refl) })

  chosen-ok : (handles : List (List ℕ)) → Tests t → all record_ok (chosen handles (own (mixed_of c) t)) ≡ true
  unfolding chosen own
  chosen-ok handles h =
      all-select record_ok (λ r. empty handles || among r.key_id handles) (own (mixed_of c) t)
      (all-select record_ok (has_mixed (mixed_of c)) t h.each)

  sign-chosen : (rs : Table) → all record_ok rs ≡ true → Sound (sign_chosen c.command c.lent rs)
  unfolding sign_chosen
  sign-chosen [] e = failed sign 0x02
  sign-chosen (r ∷ []) e = sign-one r (omega (arith, record_rules r (and_left (record_ok r) _ e)))
  sign-chosen (r ∷ q ∷ rs) e = record { allowed = tt; quiet = λ h. refl }

  decided : (k : Kind) → lent_ok k c.lent ≡ true → Tests t
      → Sound (decide k c.command c.lent (own (mixed_of c) t) (among c.lent.key_id (key_ids t)) (leb max_records (length t)))
  unfolding decide decide_get_info decide_register register_checks decide_sign decide_deregister decide_open_settings
  decided get_info l h = judged Sound _ _ _ (failed get_info) (λ p. record { allowed = tt; quiet = λ h. refl })
  decided register l h =
      judged Sound _ _ _ (failed register)
      (λ p. record { allowed = register-room l p.0 p.1.1.1.0 p.1.1.1.1.0; quiet = λ h. absurd (h refl) })
  decided sign l h =
      judged Sound _ _ _ (failed sign) (λ p. sign-chosen _ (chosen-ok _ h))
  decided deregister l h = judged Sound _ _ _ (failed deregister) (λ p. removed (empty (field_in key_id_or_none c.command)) _)
  decided open_settings l h = judged Sound _ _ _ (failed open_settings) (λ p. failed open_settings 0x06)

pub performed : (k : Kind) (c : Call) (t : Table) → lent_ok k c.lent ≡ true → table_ok t ≡ true
    → table_ok (perform k c t).left ≡ true
unfolding perform
performed k c t l e = tested _ (apply_keeps (mixed_of c) _ t (decided c t k l (tests t e)).allowed (tests t e))

-- ---- every call

-- what is known of a call that is not refused
pub record Accepted (c : Call) (g : Given) (e : Effect) : Type 0 where
  pub table : Table
  pub read : table_of g ≡ some table
  pub lent_ok : lent_ok (kind c) c.lent ≡ true
  pub done : perform (kind c) c table ≡ e

pub accepted : (c : Call) (g : Given) (e : Effect) → outcome c g ≡ gave e → Accepted c g e
unfolding outcome refusals
accepted c g e =
    judged (λ r. r ≡ gave e → Accepted c g e) (refusals c g) refused _
    (λ n p. impossible cc)
    (λ p. go (table_of g) refl (not-not _ p.1.0) (not-not _ p.1.1.1.0))
  where
    go : (o : Option Table) → table_of g ≡ o → given o ≡ true → lent_ok (kind c) c.lent ≡ true
        → gave (perform (kind c) c (get_or (table_of g) [])) ≡ gave e → Accepted c g e
    go none r h l d = clash h refl
    go (some t) r h l d = record { table = t; read = r; lent_ok = l; done = cc }

pub kept : (c : Call) (g : Given) (e : Effect) → outcome c g ≡ gave e → table_ok e.left ≡ true
kept c g e p =
    let a : Accepted c g e = accepted c g e p in
    rw (← a.done) (performed (kind c) c a.table a.lent_ok (given-ok g a.table a.read))

-- a withdrawal takes records away
pub withdraw_kept : (w : Withdrawal) (g : Given) (t : Table) → withdraw w g ≡ gave t → table_ok t ≡ true
unfolding withdraw withdraw_refusals
withdraw_kept w g t =
    judged (λ r. r ≡ gave t → table_ok t ≡ true) (withdraw_refusals w g) refused _
    (λ n p. impossible cc)
    (λ p. go (table_of g) refl (not-not _ p.1.0))
  where
    go : (o : Option Table) → table_of g ≡ o → given o ≡ true → gave (apply w.mixed (remove w.key_id) (get_or (table_of g) [])) ≡ gave t → table_ok t ≡ true
    go none r h e = clash h refl
    go (some u) r h e =
        let k : table_ok (apply w.mixed (remove w.key_id) u) ≡ true = tested _ (apply_keeps w.mixed (remove w.key_id) u tt (tests u (given-ok g u r))) in
        let i : apply w.mixed (remove w.key_id) u ≡ t = cc in
        rw i at k

pub next_kept : (s : Step) (t : Table) → table_ok t ≡ true → table_ok (next s t) ≡ true
unfolding next result
next_kept s t e = go s.act
  where
    by_command : (r : Result Effect) → ((d : Effect) → r ≡ gave d → table_ok d.left ≡ true)
        → table_ok (left_by (on_gave (λ d. record { told = wrote d.answer; left = d.left }) r) t) ≡ true
    by_command (refused n) h = e
    by_command (gave d) h = h d refl

    by-withdrawal : (r : Result Table) → ((u : Table) → r ≡ gave u → table_ok u ≡ true)
        → table_ok (left_by (on_gave (λ u. record { told = done; left = u }) r) t) ≡ true
    by-withdrawal (refused n) h = e
    by-withdrawal (gave u) h = h u refl

    go : (a : Act) → table_ok (left_by (outcome_of a (handed s.form t)) t) ≡ true
    go (commands c) = by_command (outcome c (handed s.form t)) (kept c (handed s.form t))
    go (withdraws w) = by-withdrawal (withdraw w (handed s.form t)) (withdraw_kept w (handed s.form t))

-- a refusal changes nothing
pub refused_keeps : (s : Step) (t : Table) (n : ℕ) → result s t ≡ refused n → next s t ≡ t
unfolding next
refused_keeps s t n e = rw e

-- a status other than OK changes nothing
quiet_left : (k : Kind) (c : Call) (t : Table) → lent_ok k c.lent ≡ true → table_ok t ≡ true
    → (status_of (perform k c t).answer ≡ 0 → ⊥) → (perform k c t).left ≡ t
unfolding perform apply
quiet_left k c t l e h = rw ((decided c t k l (tests t e)).quiet h)

pub status_keeps : (c : Call) (g : Given) (e : Effect) → outcome c g ≡ gave e → (status_of e.answer ≡ 0 → ⊥)
    → table_of g ≡ some e.left
status_keeps c g e p h =
    let a : Accepted c g e = accepted c g e p in
    let q : (perform (kind c) c a.table).left ≡ a.table =
    quiet_left (kind c) c a.table a.lent_ok (given-ok g a.table a.read) (rw a.done h) in
    cc (q, a.done)
