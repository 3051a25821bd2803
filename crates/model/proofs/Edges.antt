-- The edges: statuses in their order, the full table, removals, and a stranger's KeyID; EdgesSign has those of Sign.
-- Assumes nothing.
use mathlib.Core.Path.{◌≡◌, refl, sym, ap, ◌∙◌}
use mathlib.Core.Bool.{Bool, true, false, not, cond, ◌&&◌, ◌||◌}
use mathlib.Core.List.{List, [], ◌∷◌, ◌++◌}
use mathlib.Core.Logic.{◌⊎◌, inl, inr}
use Prim.Native.Nat.{ℕ, suc, ◌+◌, ◌≤◌, ◌<◌}
use native.Mathlib.Omega.{arith}
use lib.ListN.{length, length-append}
use lib.Dec.{eqb, leb, ltb}
use borrow.Author.Tests.{le-leb, lt-leb, eq-eqb, ne_eqb, eqb-false, ltb-true, not-true}
use Rattle.model.specs.Lists.{cons_if, select, empty, eq_bytes, among, distinct, all}
use Rattle.model.specs.Tlv.{num, le, tlv, bytes, text_plain, uaf_v1_tlv, challenge_hash, attestation_type, username, key_id_or_none, full, surrogate, Kind, get_info, register, sign, deregister, open_settings, broken, field_in, response_tag}
use Rattle.model.specs.Layouts.{fill, write}
use Rattle.model.specs.Records.{Record, Table, own, key_ids, has_mixed, table_ok, max_own, max_records}
use Rattle.model.specs.Commands.{Lent, Call, mixed_of, judge, response, draft, Change, keep, add, is_key, apply, Decision, only, verdict_statuses, verdict_status, info_response, name_response, display_statuses, display_status, sign_one, sign_chosen, decide_get_info, register_draft, register_checks, decide_register, decide_sign, decide_deregister, decide_open_settings, decide, Effect, perform}
use Rattle.model.proofs.Basics.{split, clash, and_left, and_right, both, eq_bytes-eq, eq_bytes-not, eq_bytes_sym, all_same, select-all, all_got, judged_each, impossible}
use Rattle.model.proofs.Numbers.{num-le}
use Rattle.model.proofs.Kept.{status_of}
use Rattle.model.proofs.Rules.{obeys_rules}
use Rattle.model.proofs.Separation.{other_apply}

-- ---- statuses

-- a response of a status only, as the paper writes one, and the table left
abbrev pub says : Kind → ℕ → Table → Effect
says k n t =
    record {
      answer = response (le 2 (response_tag k) ++ (0x06 ∷ 0x00 ∷ 0x08 ∷ 0x28 ∷ 0x02 ∷ 0x00 ∷ le 2 n));
      left = t;
    }

-- what becomes of a decision
abbrev pub carried : Call → Table → Decision → Effect
carried c t d = record { answer = d.answer; left = apply (mixed_of c) d.change t }

-- Register and Sign look at the verdict, the others do not
abbrev pub verifies : Kind → Bool
verifies get_info = false
verifies register = true
verifies sign = true
verifies deregister = false
verifies open_settings = false

-- an answer other than 0x08
abbrev Valid : Decision → Type 0
Valid d = status_of d.answer ≡ 0x08 → ⊥

-- a number of two bytes other than 8
abbrev is_valid : ℕ → Bool
is_valid n = ltb n 65536 && not (eqb n 0x08)

status_valid : (k : Kind) (ch : Change) (n : ℕ) → is_valid n ≡ true → Valid (only k ch n)
unfolding only write fill bytes le
status_valid k ch n e h =
    let i : num (le 2 n) ≡ n = num-le 2 n (ltb-true n 65536 (and_left (ltb n 65536) _ e)) in
    eqb-false n 0x08 (not-true _ (and_right (ltb n 65536) _ e)) (sym i ∙ h)

says-verdict : (k : Kind) (v : ℕ) → Valid (only k keep (verdict_status v))
says-verdict k v = status_valid k keep (verdict_status v) (all_got is_valid (0x00 ∷ verdict_statuses) v 0x00 refl refl)

says-display : (d : ℕ) → Valid (only sign keep (display_status d))
says-display d = status_valid sign keep (display_status d) (all_got is_valid (0x00 ∷ display_statuses) d 0x00 refl refl)

chosen_valid : (s : List ℕ) (l : Lent) (rs : Table) → Valid (sign_chosen s l rs)
unfolding sign_chosen sign_one name_response write fill bytes le num
chosen_valid s l [] = status_valid sign _ 0x02 refl
chosen_valid s l (r ∷ []) = judged_each Valid _ _ _ ((λ b. says-display l.display), ((λ b. status_valid sign _ 0x01 refl), tt)) (λ h. absurd (omega arith))
chosen_valid s l (r ∷ q ∷ rs) = λ h. absurd (omega arith)

module _ (c : Call) (t : Table) where
  -- 0x08 comes first
  pub invalid_first : (k : Kind) → broken k c.command ≡ true → perform k c t ≡ says k 0x08 t
  unfolding perform decide decide_get_info decide_register register_checks decide_sign decide_deregister decide_open_settings judge only apply write fill bytes le
  invalid_first get_info e = rw e
  invalid_first register e = rw e
  invalid_first sign e = rw e
  invalid_first deregister e = rw e
  invalid_first open_settings e = rw e

  -- and is answered for nothing else
  decided_valid : (k : Kind) → broken k c.command ≡ false → (mine : Table) (taken filled : Bool)
      → Valid (decide k c.command c.lent mine taken filled)
  unfolding decide decide_get_info info_response decide_register register_checks decide_sign decide_deregister decide_open_settings write fill bytes le num
  decided_valid get_info e mine taken filled = judged_each Valid _ _ _ ((λ b. clash b e), tt) (λ h. absurd (omega arith))
  decided_valid register e mine taken filled =
      judged_each Valid _ _ _ (
        (λ b. clash b e),
        (
          (λ b. says-verdict register c.lent.verdict),
          ((λ b. status_valid register _ 0x07 refl), ((λ b. status_valid register _ 0x01 refl), ((λ b. status_valid register _ 0x0F refl), tt))),
        ),
      )
      (λ h. absurd (omega arith))
  decided_valid sign e mine taken filled =
      judged_each Valid _ _ _ ((λ b. clash b e), ((λ b. says-verdict sign c.lent.verdict), tt)) (chosen_valid c.command c.lent _)
  decided_valid deregister e mine taken filled =
      judged_each Valid _ _ _ ((λ b. clash b e), ((λ b. status_valid deregister _ 0x02 refl), tt)) (status_valid deregister _ 0x00 refl)
  decided_valid open_settings e mine taken filled =
      judged_each Valid _ _ _ ((λ b. clash b e), tt) (status_valid open_settings _ 0x06 refl)

  pub invalid_only : (k : Kind) → broken k c.command ≡ false → status_of (perform k c t).answer ≡ 0x08 → ⊥
  unfolding perform
  invalid_only k e = decided_valid k e _ _ _

  -- then the verdict
  pub verdict-next : (k : Kind) → verifies k ≡ true → broken k c.command ≡ false → (c.lent.verdict ≡ 0 → ⊥)
      → perform k c t ≡ says k (verdict_status c.lent.verdict) t
  unfolding perform decide decide_register register_checks decide_sign judge only apply write fill bytes le
  verdict-next get_info v e h = clash v refl
  verdict-next register v e h = rw (e, ne_eqb _ _ h)
  verdict-next sign v e h = rw (e, ne_eqb _ _ h)
  verdict-next deregister v e h = clash v refl
  verdict-next open_settings v e h = clash v refl

-- ---- GetInfo and Open settings

module _ (c : Call) (t : Table) where
  pub informs : broken get_info c.command ≡ false
      → perform get_info c t ≡ record { answer = response (info_response c.lent); left = t }
  unfolding perform decide decide_get_info judge apply
  informs e = rw e

  -- and these are its TLVs
  pub informs_with : (l : Lent) → info_response l
      ≡ bytes
      (tlv 0x3601
      (bytes
      (tlv 0x2808 (0x00 ∷ 0x00 ∷ [])
      ∷ tlv 0x280E (0x01 ∷ [])
      ∷ tlv 0x3811
      (bytes
      (tlv 0x280D (0x00 ∷ [])
      ∷ tlv 0x2E0B l.aaid
      ∷ tlv 0x2809 l.metadata
      ∷ tlv 0x280C text_plain
      ∷ tlv 0x280A uaf_v1_tlv
      ∷ tlv 0x2807 (0x07 ∷ 0x3E ∷ [])
      ∷ tlv 0x2807 (0x08 ∷ 0x3E ∷ [])
      ∷ []))
      ∷ []))
      ∷ [])
  unfolding info_response write fill le
  informs_with l = refl

  pub unsettled : broken open_settings c.command ≡ false → perform open_settings c t ≡ says open_settings 0x06 t
  unfolding perform decide decide_open_settings judge only apply write fill bytes le
  unsettled e = rw e

-- ---- Register

-- the type is neither of the two: nothing about the table is asked
pub unsupported : (c : Call) (t : Table) → broken register c.command ≡ false → c.lent.verdict ≡ 0
    → (num (field_in attestation_type c.command) ≡ 0x3E07 → ⊥) → (num (field_in attestation_type c.command) ≡ 0x3E08 → ⊥)
    → perform register c t ≡ says register 0x07 t
unfolding perform decide decide_register register_checks judge only apply write fill bytes le
unsupported c t sound v f s = rw (sound, eq-eqb _ _ v, ne_eqb _ _ f, ne_eqb _ _ s)

-- only the table can hold up this Register
pub record Clear (c : Call) : Type 0 where
  pub sound : broken register c.command ≡ false
  pub verified : c.lent.verdict ≡ 0
  pub supported : (eqb (num (field_in attestation_type c.command)) full || eqb (num (field_in attestation_type c.command)) surrogate)
      ≡ true

abbrev pub new_record : Call → Record
new_record c = record { key_id = c.lent.key_id; mixed = mixed_of c; name = field_in username c.command; count = 0 }

module _ (c : Call) (t : Table) (k : Clear c) where
  -- anybody's KeyID, also where there is no place
  pub stored-first : among c.lent.key_id (key_ids t) ≡ true → perform register c t ≡ says register 0x01 t
  unfolding perform decide decide_register register_checks judge only apply write fill bytes le
  stored-first e = rw (k.sound, eq-eqb _ _ k.verified, k.supported, e)

  module _ (unused : among c.lent.key_id (key_ids t) ≡ false) where
    places : perform register c t
        ≡ carried c t
        (cond (leb max_own (length (own (mixed_of c) t)) || leb max_records (length t)) (only register keep 0x0F)
        (record {
          answer = draft (register_draft c.command c.lent);
          change = add c.lent.key_id (field_in username c.command);
        }))
    unfolding perform decide decide_register register_checks judge
    places = rw (k.sound, eq-eqb _ _ k.verified, k.supported, unused)

    pub no_place : (8 ≤ length (own (mixed_of c) t)) ⊎ (32 ≤ length t) → perform register c t ≡ says register 0x0F t
    unfolding only apply write fill bytes le
    no_place (inl h) = places ∙ rw (le-leb _ _ h)
    no_place (inr h) =
        places ∙ split (leb max_own (length (own (mixed_of c) t))) (λ e. rw e) (λ e. rw (e, le-leb 32 (length t) h))

    pub one_place : length (own (mixed_of c) t) < 8 → length t < 32
        → perform register c t ≡ record { answer = draft (register_draft c.command c.lent); left = t ++ (new_record c ∷ []) }
    unfolding apply
    one_place h i = places ∙ rw (lt-leb _ _ h, lt-leb _ _ i)

-- the TLVs of its draft
pub registers_with : (s : List ℕ) (l : Lent) → register_draft s l
    ≡ bytes
    (tlv 0x3E03
    (bytes
    (tlv 0x2E0B l.aaid
    ∷ tlv 0x2E0E (le 2 l.version ++ (0x01 ∷ le 2 l.signature_algorithm ++ le 2 l.key_algorithm))
    ∷ tlv 0x2E0A (field_in challenge_hash s)
    ∷ tlv 0x2E09 l.key_id
    ∷ tlv 0x2E0D (0x00 ∷ 0x00 ∷ 0x00 ∷ 0x00 ∷ 0x00 ∷ 0x00 ∷ 0x00 ∷ 0x00 ∷ [])
    ∷ tlv 0x2E0C l.public_key
    ∷ []))
    ∷ [])
unfolding register_draft write fill le
registers_with s l = refl

-- ---- a record's place in a table that obeys the rules

pub record Stands (p : Record → Bool) (r : Record) (t : Table) : Type 0 where
  pub before : Table
  pub after : Table
  pub whole : t ≡ before ++ (r ∷ after)
  pub passes : p r ≡ true

pub stands : (p : Record → Bool) (r : Record) (rs t : Table) → select p t ≡ r ∷ rs → Stands p r t
stands p r rs [] e = impossible cc
stands p r rs (x ∷ t) e =
    split (p x)
    (λ f.
    let h : x ∷ select p t ≡ r ∷ rs = rw f at e in
    let q : x ≡ r = cc in
    record { before = []; after = t; whole = cc; passes = ap p (sym q) ∙ f })
    (λ f.
    let s : Stands p r t = stands p r rs t (rw f at e) in
    record { before = x ∷ s.before; after = s.after; whole = ap (λ l. x ∷ l) s.whole; passes = s.passes })

select_gap : (p : Record → Bool) (a : Table) (r : Record) (b : Table) → p r ≡ false → select p (a ++ (r ∷ b)) ≡ select p (a ++ b)
select_gap p [] r b e = rw e
select_gap p (x ∷ a) r b e = ap (cons_if (p x) x) (select_gap p a r b e)

-- another KeyID
abbrev pub other : List ℕ → Record → Bool
other k x = not (eq_bytes x.key_id k)

none_among : (k : List ℕ) (t : Table) → not (among k (key_ids t)) ≡ true → all (other k) t ≡ true
none_among k [] e = refl
none_among k (x ∷ t) e =
    split (eq_bytes x.key_id k) (λ f. clash (rw f at e) refl) (λ f. rw f (none_among k t (rw f at e)))

all-at : (p : Record → Bool) (a : Table) (r : Record) (b : Table) → all p (a ++ (r ∷ b)) ≡ true → p r ≡ true
all-at p [] r b e = and_left (p r) _ e
all-at p (x ∷ a) r b e = all-at p a r b (and_right (p x) _ e)

pub others : (a : Table) (r : Record) (b : Table) → distinct (key_ids (a ++ (r ∷ b))) ≡ true → all (other r.key_id) (a ++ b) ≡ true
others [] r b e = none_among r.key_id b (and_left _ _ e)
others (x ∷ a) r b e =
    let n : not (among x.key_id (key_ids (a ++ (r ∷ b)))) ≡ true = and_left _ _ e in
    let o : other x.key_id r ≡ true = all-at (other x.key_id) a r b (none_among x.key_id (a ++ (r ∷ b)) n) in
    both (ap not (eq_bytes_sym x.key_id r.key_id) ∙ o) (others a r b (and_right (not (among x.key_id (key_ids (a ++ (r ∷ b))))) _ e))

-- in a table that obeys the rules no other record is the caller's with this KeyID
pub alone : (m k : List ℕ) (a : Table) (r : Record) (b : Table) → table_ok (a ++ (r ∷ b)) ≡ true → r.key_id ≡ k
    → all (λ x. not (is_key m k x)) (a ++ b) ≡ true
unfolding table_ok
alone m k a r b e q =
    let d : distinct (key_ids (a ++ (r ∷ b))) ≡ true = search (and_left, and_right) in
    rw (← q) (all_same (λ x o. split (has_mixed m x) (λ f. rw f o) (λ f. rw f)) (a ++ b) (others a r b d))

-- ---- Deregister

abbrev pub asked : Call → List ℕ
asked c = field_in key_id_or_none c.command

module _ (c : Call) (t : Table) (sound : broken deregister c.command ≡ false) where
  -- a KeyID that no record of the caller has: it is not asked whether another record has it
  pub not_own : empty (asked c) ≡ false → among (asked c) (key_ids (own (mixed_of c) t)) ≡ false
      → perform deregister c t ≡ says deregister 0x02 t
  unfolding perform decide decide_deregister judge only apply write fill bytes le
  not_own e f = rw (sound, e, f)

  pub removes : empty (asked c) ≡ false → among (asked c) (key_ids (own (mixed_of c) t)) ≡ true
      → perform deregister c t ≡ says deregister 0x00 (select (λ r. not (is_key (mixed_of c) (asked c) r)) t)
  unfolding perform decide decide_deregister judge only apply write fill bytes le
  removes e f = rw (sound, e, f)

  pub removes_all : empty (asked c) ≡ true → perform deregister c t ≡ says deregister 0x00 (select (λ r. not (has_mixed (mixed_of c) r)) t)
  unfolding perform decide decide_deregister judge only apply write fill bytes le
  removes_all e = rw (sound, e)

module _ (m k : List ℕ) where
  -- the caller has a record with this KeyID, said in the two ways
  own_key : (t : Table) → among k (key_ids (own m t)) ≡ true → (r : Record) × ((rs : Table) × (select (is_key m k) t ≡ r ∷ rs))
  unfolding own
  own_key [] e = clash e refl
  own_key (x ∷ t) e =
      split (has_mixed m x)
      (λ f.
      split (eq_bytes x.key_id k) (λ g. (x, (select (is_key m k) t, rw (f, g))))
      (λ g. rw (f, g) (own_key t (rw (f, g) at e))))
      (λ f. rw f (own_key t (rw f at e)))

  pub key_own : (a : Table) (r : Record) (b : Table) → is_key m k r ≡ true → among k (key_ids (own m (a ++ (r ∷ b)))) ≡ true
  unfolding own
  key_own [] r b e = rw (and_left (has_mixed m r) _ e, and_right (has_mixed m r) _ e)
  key_own (x ∷ a) r b e =
      split (has_mixed m x)
      (λ f. split (eq_bytes x.key_id k) (λ g. rw (f, g)) (λ g. rw (f, g) (key_own a r b e)))
      (λ f. rw f (key_own a r b e))

  pub gap : (a : Table) (r : Record) (b : Table) → table_ok (a ++ (r ∷ b)) ≡ true → is_key m k r ≡ true
      → select (λ x. not (is_key m k x)) (a ++ (r ∷ b)) ≡ a ++ b
  gap a r b e f =
      let q : r.key_id ≡ k = eq_bytes-eq r.key_id k (and_right (has_mixed m r) _ f) in
      select_gap _ a r b (ap not f) ∙ select-all _ (a ++ b) (alone m k a r b e q)

pub record Removed (c : Call) (t : Table) : Type 0 where
  pub gone : Record
  pub place : Stands (is_key (mixed_of c) (asked c)) gone t
  pub closed : perform deregister c t ≡ says deregister 0x00 (place.before ++ place.after)

module _ (c : Call) (t : Table) (sound : broken deregister c.command ≡ false) (some : empty (asked c) ≡ false) (rules : table_ok t ≡ true) where
  -- wherever the record stands, the rest moves together in its order
  pub closes_gap : (r : Record) (s : Stands (is_key (mixed_of c) (asked c)) r t)
      → perform deregister c t ≡ says deregister 0x00 (s.before ++ s.after)
  closes_gap r s =
      let m = mixed_of c in
      let w : t ≡ s.before ++ (r ∷ s.after) = s.whole in
      let h : among (asked c) (key_ids (own m t)) ≡ true = rw w (key_own m (asked c) s.before r s.after s.passes) in
      let e : table_ok (s.before ++ (r ∷ s.after)) ≡ true = rw w at rules in
      removes c t sound some h ∙ ap (says deregister 0x00) (rw w (gap m (asked c) s.before r s.after e s.passes))

  pub removed : among (asked c) (key_ids (own (mixed_of c) t)) ≡ true → Removed c t
  removed h =
      let f = own_key (mixed_of c) (asked c) t h in
      let s : Stands (is_key (mixed_of c) (asked c)) f.0 t = stands (is_key (mixed_of c) (asked c)) f.0 f.1.0 t f.1.1 in
      record { gone = f.0; place = s; closed = closes_gap f.0 s }

-- ---- a freed place

own_gap : (m : List ℕ) (a : Table) (r : Record) (b : Table)
    → length (own m (a ++ (r ∷ b))) ≡ cond (has_mixed m r) 1 0 + length (own m (a ++ b))
unfolding own
own_gap m [] r b = split (has_mixed m r) (λ e. rw e (omega arith)) (λ e. rw e (omega arith))
own_gap m (x ∷ a) r b =
    let ih = own_gap m a r b in
    split (has_mixed m x) (λ e. rw e (omega (arith, ih))) (λ e. rw e ih)

-- "so a freed place is used again": where a Deregister removed a record, a Register that only the table could hold up is not refused for
-- want of a place, if it is of the same holder or of one with fewer than 8 records, and its record is the last
pub freed_place : (d : Call) (t : Table) → table_ok t ≡ true → Removed d t → (c : Call) → Clear c
    → among c.lent.key_id (key_ids (perform deregister d t).left) ≡ false
    → (mixed_of c ≡ mixed_of d) ⊎ (length (own (mixed_of c) t) < 8)
    → perform register c (perform deregister d t).left
    ≡ record { answer = draft (register_draft c.command c.lent); left = (perform deregister d t).left ++ (new_record c ∷ []) }
freed_place d t ok w c k unused h =
    let p = w.place in
    let e : (perform deregister d t).left ≡ p.before ++ p.after = ap (λ x. x.left) w.closed in
    let o : length (own (mixed_of c) t) ≡ cond (has_mixed (mixed_of c) w.gone) 1 0 + length (own (mixed_of c) (p.before ++ p.after)) =
    rw p.whole (own_gap (mixed_of c) p.before w.gone p.after) in
    let n : length t ≡ suc (length (p.before ++ p.after)) = rw p.whole (simp length-append (omega arith)) in
    let r = obeys_rules t ok in
    rw e
    (one_place c (p.before ++ p.after) k (rw e at unused) (few h o) (omega (arith, n, r.few)))
  where
    few : (mixed_of c ≡ mixed_of d) ⊎ (length (own (mixed_of c) t) < 8)
        → length (own (mixed_of c) t) ≡ cond (has_mixed (mixed_of c) w.gone) 1 0 + length (own (mixed_of c) (w.place.before ++ w.place.after))
        → length (own (mixed_of c) (w.place.before ++ w.place.after)) < 8
    few (inl q) o =
        let g : has_mixed (mixed_of c) w.gone ≡ true = rw q (and_left _ _ w.place.passes) in
        omega (arith, rw g at o, (obeys_rules t ok).own-few (mixed_of c))
    few (inr q) o = omega (arith, o)

-- the records of another holder stay, with their order and all their fields, whatever the call
pub others_stay : (k : Kind) (c : Call) (t : Table) (h : List ℕ) → (mixed_of c ≡ h → ⊥) → own h (perform k c t).left ≡ own h t
unfolding perform
others_stay k c t h n = other_apply (mixed_of c) h (eq_bytes-not _ _ n) _ t

-- ---- a stranger's KeyID

abbrev pub is_register : Kind → Bool
is_register get_info = false
is_register register = true
is_register sign = false
is_register deregister = false
is_register open_settings = false

-- but for Register, what is answered depends on the caller's own records alone: not on whether others are there, or have a KeyID
pub own-only : (c : Call) (t u : Table) (k : Kind) → is_register k ≡ false → own (mixed_of c) t ≡ own (mixed_of c) u
    → (perform k c t).answer ≡ (perform k c u).answer
unfolding perform decide
own-only c t u get_info n e = refl
own-only c t u register n e = clash refl n
own-only c t u sign n e = rw e
own-only c t u deregister n e = rw e
own-only c t u open_settings n e = refl
