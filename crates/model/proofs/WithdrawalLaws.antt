-- Request A5: what a withdrawal gives, refusal by refusal; the three cases of 7, in words; and that it takes a registration back.
-- Assumes nothing.
use mathlib.Core.Path.{◌≡◌, refl, sym, ap, ◌∙◌}
use mathlib.Core.Bool.{Bool, true, false, not, ◌&&◌}
use mathlib.Core.List.{List, [], ◌∷◌, ◌++◌, append-nil}
use mathlib.Core.Logic.{◌⊎◌, inl, inr}
use mathlib.Core.Option.{Option, none, some, get_or}
use Prim.Native.Nat.{ℕ, ◌≤◌, ◌<◌}
use native.Mathlib.Omega.{arith}
use lib.ListN.{length}
use lib.Dec.{eqb, leb, ltb}
use borrow.Author.Tests.{lt-ltb, ltb-true, ltb-false, le-ltb, eq-eqb, eqb-true, eqb-false, ne_eqb, not-true}
use Rattle.model.specs.Lists.{all, any, last, select, eq_bytes, among, distinct}
use Rattle.model.specs.Tlv.{Bytes, fits, key_id, mixed_token, username, register, field_in}
use Rattle.model.specs.Records.{Record, Table, own, key_ids, has_mixed, table_ok, max_records, encode, decode}
use Rattle.model.specs.Commands.{Call, mixed_of, kind, Given, stored, table_of, judge, Result, refused, gave, on_gave, Effect, draft, is_key, add, remove, apply, only, keep, register_draft, register_checks, decide_register, decide, perform, outcome}
use Rattle.model.specs.Withdrawals.{Withdrawal, withdrawal_checks, withdraw_refusals, withdraw}
use Rattle.model.specs.Traces.{withdraws, Form, Step, is_of, next, final}
use Rattle.model.proofs.Basics.{split, up-to, clash, impossible, and_left, and_right, both, or_left, or_right, eq_bytes-eq, eq_bytes-refl, all-select, select-append, judged}
use Rattle.model.proofs.LayoutLaws.{size_fits, fits-least, fits-most}
use Rattle.model.proofs.StoredForm.{decode-encode, encode-decode}
use Rattle.model.proofs.HashLaws.{mixed_length, owned}
use Rattle.model.proofs.Rules.{tests}
use Rattle.model.proofs.LentLaws.{lent_rules}
use Rattle.model.proofs.Kept.{given-ok, Accepted, accepted, kept, next_kept}
use Rattle.model.proofs.Separation.{next_other}
use Rattle.model.proofs.Edges.{carried, new_record, Stands, other, others, key_own, gap}

-- ---- refusals 1, 2 and 4 (no table output is none too short: 6912 stands in for its length)

-- "by mixed token and KeyID": both have 32 bytes
pub record Named (w : Withdrawal) : Type 0 where
  pub mixed : length w.mixed ≡ 32
  pub key-id : length w.key_id ≡ 32

pub both_fit : (w : Withdrawal) → Named w → (fits mixed_token w.mixed && fits key_id w.key_id) ≡ true
both_fit w n =
    both (size_fits mixed_token w.mixed (omega (arith, n.mixed)) (omega (arith, n.mixed)) refl)
    (size_fits key_id w.key_id (omega (arith, n.key-id)) (omega (arith, n.key-id)) refl)

pub fit_both : (w : Withdrawal) → (fits mixed_token w.mixed && fits key_id w.key_id) ≡ true → Named w
fit_both w e =
    let m = and_left (fits mixed_token w.mixed) _ e in
    let k = and_right (fits mixed_token w.mixed) _ e in
    record {
      mixed = omega (arith, fits-least mixed_token w.mixed m, fits-most mixed_token w.mixed m);
      key-id = omega (arith, fits-least key_id w.key_id k, fits-most key_id w.key_id k);
    }

module _ (w : Withdrawal) (g : Given) where
  pub withdraw-short : get_or w.table_output 6912 < 6912 → withdraw w g ≡ refused 1
  unfolding withdraw withdraw_refusals judge
  withdraw-short h = rw (lt-ltb _ _ h)

  module _ (room : 6912 ≤ get_or w.table_output 6912) where
    pub withdraw-no-table : table_of g ≡ none → withdraw w g ≡ refused 2
    unfolding withdraw withdraw_refusals judge
    withdraw-no-table e = rw (le-ltb _ _ room, e)

    module _ (t : Table) (read : table_of g ≡ some t) where
      pub withdraw-wrongly : (Named w → ⊥) → withdraw w g ≡ refused 4
      unfolding withdraw withdraw_refusals judge
      withdraw-wrongly h =
          split (fits mixed_token w.mixed && fits key_id w.key_id) (λ e. absurd (h (fit_both w e))) (λ e. rw (le-ltb _ _ room, read, e))

      -- past these
      pub withdraw-looks : Named w
          → withdraw w g ≡ judge (withdrawal_checks w.key_id (own w.mixed t)) refused (gave (apply w.mixed (remove w.key_id) t))
      unfolding withdraw withdraw_refusals judge
      withdraw-looks n = rw (le-ltb _ _ room, read, both_fit w n)

-- ---- whose it is: the holder's of the mixed token of 32 bytes that it is lent

pub withdrawal_of : (h : List ℕ) (w : Withdrawal) (f : Form) → is_of h (record { act = withdraws w; form = f }) ≡ true
    → (length w.mixed ≡ 32) × (w.mixed ≡ h)
withdrawal_of h w f o =
    let e = sym (owned h (fits mixed_token w.mixed) w.mixed) ∙ o in
    let m = and_left (fits mixed_token w.mixed) _ e in
    (omega (arith, fits-least mixed_token w.mixed m, fits-most mixed_token w.mixed m), eq_bytes-eq w.mixed h (and_right (fits mixed_token w.mixed) _ e))

pub of_withdrawal : (w : Withdrawal) (f : Form) → length w.mixed ≡ 32 → is_of w.mixed (record { act = withdraws w; form = f }) ≡ true
of_withdrawal w f n =
    owned w.mixed (fits mixed_token w.mixed) w.mixed
    ∙ both (size_fits mixed_token w.mixed (omega (arith, n)) (omega (arith, n)) refl) (eq_bytes-refl w.mixed)

-- ---- refusal 7

module _ (m k : List ℕ) (t : Table) where
  -- "no record has both values, its counter is not 0, or it isn't its holder's newest": one after it has the mixed token
  pub data Stays : Type 0 where
    no_record : all (λ r. not (is_key m k r)) t ≡ true → Stays
    counted : (r : Record) → Stands (is_key m k) r t → (r.count ≡ 0 → ⊥) → Stays
    not-newest : (r : Record) (s : Stands (is_key m k) r t) → any (has_mixed m) s.after ≡ true → Stays

  -- none of these: a record has both values and counter 0, and none after it has the mixed token
  pub record Newest : Type 0 where
    pub gone : Record
    pub place : Stands (is_key m k) gone t
    pub unsigned : gone.count ≡ 0
    pub newest : any (has_mixed m) place.after ≡ false

-- records with other KeyIDs before and after one
module _ (k : List ℕ) where
  abbrev pub signed : Record → Bool
  signed r = eq_bytes r.key_id k && not (eqb r.count 0)

  none_signed : (xs : Table) → all (other k) xs ≡ true → any signed xs ≡ false
  none_signed [] e = refl
  none_signed (x ∷ xs) e = rw (not-true (eq_bytes x.key_id k) (and_left (other k x) _ e)) (none_signed xs (and_right (other k x) _ e))

  pub signed-at : (a : Table) (r : Record) (b : Table) → all (other k) (a ++ b) ≡ true → any signed (a ++ (r ∷ b)) ≡ signed r
  signed-at [] r b e = let n = none_signed b e in split (signed r) (λ s. cc) (λ s. cc)
  signed-at (x ∷ a) r b e = rw (not-true (eq_bytes x.key_id k) (and_left (other k x) _ e)) (signed-at a r b (and_right (other k x) _ e))

  last_other : (d : List ℕ) (xs : Table) → eq_bytes d k ≡ false → all (other k) xs ≡ true → eq_bytes (last d (key_ids xs)) k ≡ false
  last_other d [] n e = n
  last_other d (x ∷ xs) n e = last_other x.key_id xs (not-true (eq_bytes x.key_id k) (and_left (other k x) _ e)) (and_right (other k x) _ e)

  pub last-past : (d : List ℕ) (a : Table) (r : Record) (b : Table) → last d (key_ids (a ++ (r ∷ b))) ≡ last r.key_id (key_ids b)
  last-past d [] r b = refl
  last-past d (x ∷ a) r b = last-past x.key_id a r b

-- the holder's records before and after one of them
own_around : (m : List ℕ) (a : Table) (r : Record) (b : Table) → has_mixed m r ≡ true → own m (a ++ (r ∷ b)) ≡ own m a ++ (r ∷ own m b)
unfolding own
own_around m a r b e = select-append (has_mixed m) a (r ∷ b) ∙ rw e

none_own : (m : List ℕ) (b : Table) → any (has_mixed m) b ≡ false → own m b ≡ []
unfolding own
none_own m [] e = refl
none_own m (x ∷ b) e = rw (or_left (has_mixed m x) _ e) (none_own m b (or_right (has_mixed m x) _ e))

own_none : (m : List ℕ) (b : Table) → own m b ≡ [] → any (has_mixed m) b ≡ false
unfolding own
own_none m [] e = refl
own_none m (x ∷ b) e =
    split (has_mixed m x) (λ f. let i : x ∷ own m b ≡ [] = rw f at e in impossible cc) (λ f. rw f (own_none m b (rw f at e)))

own_some : (m k : List ℕ) (d : List ℕ) (b : Table) → any (has_mixed m) b ≡ true → all (other k) (own m b) ≡ true
    → eq_bytes (last d (key_ids (own m b))) k ≡ false
unfolding own
own_some m k d [] e o = clash e refl
own_some m k d (x ∷ b) e o =
    split (has_mixed m x)
    (λ f. let p : all (other k) (x ∷ own m b) ≡ true = rw f at o in
    rw f (last_other k x.key_id (own m b) (not-true (eq_bytes x.key_id k) (and_left (other k x) _ p)) (and_right (other k x) _ p)))
    (λ f. rw f (own_some m k d b (rw f at e) (rw f at o)))

-- the checks of 7 where the record stands
module _ (m k : List ℕ) (t : Table) (ok : table_ok t ≡ true) (r : Record) (s : Stands (is_key m k) r t) where
  abbrev a : Table
  a = s.before

  abbrev b : Table
  b = s.after

  its_key : r.key_id ≡ k
  its_key = eq_bytes-eq r.key_id k (and_right (has_mixed m r) _ s.passes)

  its_mixed : has_mixed m r ≡ true
  its_mixed = and_left (has_mixed m r) _ s.passes

  mine-is : own m t ≡ own m a ++ (r ∷ own m b)
  mine-is = ap (own m) s.whole ∙ own_around m a r b its_mixed

  others_there : all (other k) (a ++ b) ≡ true
  others_there =
      let d : distinct (key_ids (a ++ (r ∷ b))) ≡ true = rw (← s.whole) (tests t ok).once in
      ap (λ j. all (other j) (a ++ b)) (sym its_key) ∙ others a r b d

  others_mine : all (other k) (own m a ++ own m b) ≡ true
  unfolding own
  others_mine = rw (← select-append (has_mixed m) a b) (all-select (other k) (has_mixed m) (a ++ b) others_there)

  there : among k (key_ids (own m t)) ≡ true
  there = ap (λ u. among k (key_ids (own m u))) s.whole ∙ key_own m k a r b s.passes

  signed_is : any (signed k) (own m t) ≡ not (eqb r.count 0)
  signed_is =
      ap (any (signed k)) mine-is ∙ signed-at k (own m a) r (own m b) others_mine ∙ rw (and_right (has_mixed m r) _ s.passes)

  newest_is : any (has_mixed m) b ≡ false → eq_bytes (last [] (key_ids (own m t))) k ≡ true
  newest_is n = rw (mine-is, last-past k [] (own m a) r (own m b), none_own m b n) (and_right (has_mixed m r) _ s.passes)

  newest_not : any (has_mixed m) b ≡ true → eq_bytes (last [] (key_ids (own m t))) k ≡ false
  newest_not n =
      rw (mine-is, last-past k [] (own m a) r (own m b))
      (own_some m k r.key_id b n (right (own m a) (own m b) others_mine))
    where
      right : (x y : Table) → all (other k) (x ++ y) ≡ true → all (other k) y ≡ true
      right [] y e = e
      right (z ∷ x) y e = right x y (and_right (other k z) _ e)

-- ---- what is left

-- one of the three cases, or none
pub stays_or_goes : (m k : List ℕ) (t : Table) → Stays m k t ⊎ Newest m k t
stays_or_goes m k t =
    split (any (is_key m k) t)
    (λ e. let s = found t e in
    split (eqb s.0.count 0)
    (λ c. split (any (has_mixed m) s.1.after)
    (λ n. inl (not-newest s.0 s.1 n))
    (λ n. inr (record { gone = s.0; place = s.1; unsigned = eqb-true s.0.count 0 c; newest = n })))
    (λ c. inl (counted s.0 s.1 (eqb-false s.0.count 0 c))))
    (λ e. inl (no_record (none-at t e)))
  where
    found : (u : Table) → any (is_key m k) u ≡ true → (r : Record) × Stands (is_key m k) r u
    found [] e = clash e refl
    found (x ∷ u) e =
        split (is_key m k x)
        (λ f. (x, record { before = []; after = u; whole = refl; passes = f }))
        (λ f. let (r, s) = found u (rw f at e) in
        (r, record { before = x ∷ s.before; after = s.after; whole = ap (λ l. x ∷ l) s.whole; passes = s.passes }))

    none-at : (u : Table) → any (is_key m k) u ≡ false → all (λ r. not (is_key m k r)) u ≡ true
    none-at [] e = refl
    none-at (x ∷ u) e = rw (or_left (is_key m k x) _ e) (none-at u (or_right (is_key m k x) _ e))

-- no record has both values: the holder has none with this KeyID
not_there : (m k : List ℕ) (t : Table) → all (λ r. not (is_key m k r)) t ≡ true → among k (key_ids (own m t)) ≡ false
unfolding own
not_there m k [] e = refl
not_there m k (x ∷ t) e =
    let n = not-true (is_key m k x) (and_left (not (is_key m k x)) _ e) in
    let ih = not_there m k t (and_right (not (is_key m k x)) _ e) in
    split (has_mixed m x) (λ f. rw (f, rw f at n) ih) (λ f. rw f ih)

module _ (m k : List ℕ) (t : Table) (ok : table_ok t ≡ true) where
  abbrev judgment : Result Table
  judgment = judge (withdrawal_checks k (own m t)) refused (gave (apply m (remove k) t))

  stays_judged : Stays m k t → judgment ≡ refused 7
  unfolding judge
  stays_judged (no_record e) = rw (not_there m k t e)
  stays_judged (counted r s n) = rw (there m k t ok r s, signed_is m k t ok r s, ne_eqb r.count 0 n)
  stays_judged (not-newest r s n) =
      split (eqb r.count 0)
      (λ c. rw (there m k t ok r s, signed_is m k t ok r s, c, newest_not m k t ok r s n))
      (λ c. rw (there m k t ok r s, signed_is m k t ok r s, c))

  newest_judged : (n : Newest m k t) → judgment ≡ gave (n.place.before ++ n.place.after)
  unfolding judge apply
  newest_judged n =
      let r = n.gone in
      let s = n.place in
      let closed = ap (select (λ x. not (is_key m k x))) s.whole ∙ gap m k s.before r s.after (rw s.whole at ok) s.passes in
      rw (there m k t ok r s, signed_is m k t ok r s, eq-eqb r.count 0 n.unsigned, newest_is m k t ok r s n.newest, closed)

-- a withdrawal that is given a table and lent values of 32 bytes, and not refused over its table output
module _ (w : Withdrawal) (g : Given) (t : Table) (room : 6912 ≤ get_or w.table_output 6912) (read : table_of g ≡ some t) (named : Named w) where
  -- "that record goes, all others keep content and order"
  pub withdraw-goes : (n : Newest w.mixed w.key_id t) → withdraw w g ≡ gave (n.place.before ++ n.place.after)
  withdraw-goes n = withdraw-looks w g room t read named ∙ newest_judged w.mixed w.key_id t (given-ok g t read) n

  -- 7 in each of the three cases
  pub withdraw_stays : Stays w.mixed w.key_id t → withdraw w g ≡ refused 7
  withdraw_stays s = withdraw-looks w g room t read named ∙ stays_judged w.mixed w.key_id t (given-ok g t read) s

-- ---- what is known of one by what it gave

-- past refusals 1, 2 and 4
pub record Looked (w : Withdrawal) (g : Given) : Type 0 where
  pub room : 6912 ≤ get_or w.table_output 6912
  pub table : Table
  pub read : table_of g ≡ some table
  pub named : Named w

looked : (w : Withdrawal) (g : Given) → (withdraw w g ≡ refused 1 → ⊥) → (withdraw w g ≡ refused 2 → ⊥) → (withdraw w g ≡ refused 4 → ⊥) → Looked w g
looked w g no1 no2 no4 =
    up-to 6912 (get_or w.table_output 6912) (λ room. go room (table_of g) refl) (λ short. absurd (no1 (withdraw-short w g short)))
  where
    go : 6912 ≤ get_or w.table_output 6912 → (o : Option Table) → table_of g ≡ o → Looked w g
    go room none r = absurd (no2 (withdraw-no-table w g room r))
    go room (some t) r =
        split (fits mixed_token w.mixed && fits key_id w.key_id)
        (λ e. record { room = room; table = t; read = r; named = fit_both w e })
        (λ e. absurd (no4 (withdraw-wrongly w g room t r (λ n. clash (both_fit w n) e))))

-- 7 in no case but those three
pub stays_only : (w : Withdrawal) (g : Given) → withdraw w g ≡ refused 7 → (l : Looked w g) × Stays w.mixed w.key_id l.table
stays_only w g e = (l, go (stays_or_goes w.mixed w.key_id l.table))
  where
    l : Looked w g
    l = looked w g (λ q. let i = sym e ∙ q in impossible cc) (λ q. let i = sym e ∙ q in impossible cc) (λ q. let i = sym e ∙ q in impossible cc)

    go : Stays w.mixed w.key_id l.table ⊎ Newest w.mixed w.key_id l.table → Stays w.mixed w.key_id l.table
    go (inl s) = s
    go (inr n) = let i = sym (withdraw-goes w g l.table l.room l.read l.named n) ∙ e in impossible cc

-- and done only where none of them holds
pub withdrawn : (w : Withdrawal) (g : Given) (u : Table) → withdraw w g ≡ gave u
    → (l : Looked w g) × ((n : Newest w.mixed w.key_id l.table) × (u ≡ n.place.before ++ n.place.after))
withdrawn w g u e = (l, go (stays_or_goes w.mixed w.key_id l.table))
  where
    l : Looked w g
    l = looked w g (λ q. let i = sym e ∙ q in impossible cc) (λ q. let i = sym e ∙ q in impossible cc) (λ q. let i = sym e ∙ q in impossible cc)

    go : Stays w.mixed w.key_id l.table ⊎ Newest w.mixed w.key_id l.table
        → (n : Newest w.mixed w.key_id l.table) × (u ≡ n.place.before ++ n.place.after)
    go (inl s) = let i = sym (withdraw_stays w g l.table l.room l.read l.named s) ∙ e in impossible cc
    go (inr n) =
        let i = sym (withdraw-goes w g l.table l.room l.read l.named n) ∙ e in
        let j : u ≡ n.place.before ++ n.place.after = cc in
        (n, j)

-- ---- a registration taken back

-- a Register that made a draft added its record
added : (c : Call) (t : Table) (e : Effect) (d : List ℕ) → perform register c t ≡ e → e.answer ≡ draft d → e.left ≡ t ++ (new_record c ∷ [])
unfolding perform decide decide_register only apply
added c t e d p q =
    judged (λ x. carried c t x ≡ e → e.left ≡ t ++ (new_record c ∷ []))
    (register_checks c.command c.lent (own (mixed_of c) t) (among c.lent.key_id (key_ids t)) (leb max_records (length t)))
    (only register keep)
    (record { answer = draft (register_draft c.command c.lent); change = add c.lent.key_id (field_in username c.command) })
    (λ n i. let j = ap (λ (y : Effect). y.answer) i ∙ q in impossible cc)
    (λ k i. sym (ap (λ (y : Effect). y.left) i))
    p

-- the last of a holder's records, where it stands in the table
last-own : (m : List ℕ) (u mine : Table) (r : Record) → own m u ≡ mine ++ (r ∷ [])
    → (a : Table) × (b : Table) × (u ≡ a ++ (r ∷ b)) × (any (has_mixed m) b ≡ false)
unfolding own
last-own m [] [] r e = impossible cc
last-own m [] (y ∷ mine) r e = impossible cc
last-own m (x ∷ u) [] r e =
    split (has_mixed m x)
    (λ f. let i : x ∷ own m u ≡ r ∷ [] = rw f at e in
    let j : x ≡ r = cc in
    let n : own m u ≡ [] = cc in
    ([], u, cc j, own_none m u n))
    (λ f. let (a, b, w, n) = last-own m u [] r (rw f at e) in (x ∷ a, b, cc w, n))
last-own m (x ∷ u) (y ∷ mine) r e =
    split (has_mixed m x)
    (λ f. let i : x ∷ own m u ≡ y ∷ (mine ++ (r ∷ [])) = rw f at e in
    let j : own m u ≡ mine ++ (r ∷ []) = cc in
    let (a, b, w, n) = last-own m u mine r j in
    (x ∷ a, b, cc w, n))
    (λ f. let (a, b, w, n) = last-own m u (y ∷ mine) r (rw f at e) in (x ∷ a, b, cc w, n))

-- the withdrawal that is lent the mixed token and the KeyID of a Register
abbrev pub taking_back : Call → Option ℕ → Withdrawal
taking_back c o = record { mixed = mixed_of c; key_id = c.lent.key_id; table_output = o }

-- c is a Register that was given t and made a draft
module _ (c : Call) (g : Given) (t : Table) (e : Effect) (d : List ℕ)
    (read : table_of g ≡ some t) (is : kind c ≡ register) (gives : outcome c g ≡ gave e) (drafts : e.answer ≡ draft d) where
  its : Accepted c g e
  its = accepted c g e gives

  adds : e.left ≡ t ++ (new_record c ∷ [])
  adds =
      let q : some its.table ≡ some t = sym its.read ∙ read in
      let u : its.table ≡ t = cc in
      added c t e d (rw (is, u) at its.done) drafts

  named : (o : Option ℕ) → Named (taking_back c o)
  named o = record { mixed = mixed_length c.command; key-id = (lent_rules register c.lent (rw is at its.lent_ok)).key-id }

  -- "Directly after .. it gives the former table exactly", in whichever form it is handed the table, "unless refused over its table output"
  pub former_table : (o : Option ℕ) (h : Given) → table_of h ≡ some e.left → 6912 ≤ get_or o 6912 → withdraw (taking_back c o) h ≡ gave t
  former_table o h there room =
      withdraw-goes (taking_back c o) h e.left room there (named o)
      (record {
        gone = new_record c;
        place = record { before = t; after = []; whole = adds; passes = both (eq_bytes-refl (mixed_of c)) (eq_bytes-refl c.lent.key_id) };
        unsigned = refl;
        newest = refl;
      })
      ∙ ap gave (append-nil t)

  -- and as stored bytes: the Register was given s, and left the stored form that the withdrawal is given
  pub former_bytes : (s : List ℕ) → Bytes s → g ≡ stored s → (o : Option ℕ) → 6912 ≤ get_or o 6912
      → on_gave encode (withdraw (taking_back c o) (stored (encode e.left))) ≡ gave s
  unfolding table_of
  former_bytes s b q o room =
      let f : decode s ≡ some t = ap table_of (sym q) ∙ read in
      ap (on_gave encode) (former_table o (stored (encode e.left)) (decode-encode e.left (kept c g e gives)) room) ∙ ap gave (encode-decode s t b f)

  -- calls of which none is the holder's leave its records: the one that was added is the last of them
  others_act : (ss : List Step) (u : Table) → table_ok u ≡ true → all (λ s. not (is_of (mixed_of c) s)) ss ≡ true → own (mixed_of c) (final ss u) ≡ own (mixed_of c) u
  unfolding final
  others_act [] u ok n = refl
  others_act (s ∷ ss) u ok n =
      others_act ss (next s u) (next_kept s u ok) (and_right (not (is_of (mixed_of c) s)) _ n)
      ∙ next_other (mixed_of c) s u ok (not-true (is_of (mixed_of c) s) (and_left (not (is_of (mixed_of c) s)) _ n))

  module _ (ss : List Step) (strangers : all (λ s. not (is_of (mixed_of c) s)) ss ≡ true) where
    abbrev pub later : Table
    later = final ss e.left

    own-later : own (mixed_of c) later ≡ own (mixed_of c) t ++ (new_record c ∷ [])
    own-later =
        others_act ss e.left (kept c g e gives) strangers ∙ ap (own (mixed_of c)) adds
        ∙ own_around (mixed_of c) t (new_record c) [] (eq_bytes-refl (mixed_of c)) ∙ unfold own in refl

    -- what was added is its holder's newest, with counter 0
    newest-later : Newest (mixed_of c) c.lent.key_id later
    newest-later =
        let (a, b, w, n) = last-own (mixed_of c) later (own (mixed_of c) t) (new_record c) own-later in
        record {
          gone = new_record c;
          place = record { before = a; after = b; whole = w; passes = both (eq_bytes-refl (mixed_of c)) (eq_bytes-refl c.lent.key_id) };
          unsigned = refl;
          newest = n;
        }

    module _ (o : Option ℕ) (h : Given) (there : table_of h ≡ some later) where
      -- "also where other holders have acted since its Register": the table without that one record
      pub taken_back : 6912 ≤ get_or o 6912
          → (a : Table) × (b : Table) × (later ≡ a ++ (new_record c ∷ b)) × (withdraw (taking_back c o) h ≡ gave (a ++ b))
      unfolding newest-later
      taken_back room =
          let s = newest-later.place in
          (s.before, s.after, s.whole, withdraw-goes (taking_back c o) h later room there (named o) newest-later)

      -- and never 7
      pub never-7 : withdraw (taking_back c o) h ≡ refused 7 → ⊥
      never-7 q =
          split (ltb (get_or o 6912) 6912)
          (λ l. let i = sym (withdraw-short (taking_back c o) h (ltb-true _ _ l)) ∙ q in impossible cc)
          (λ l. let i = sym (taken_back (ltb-false _ _ l)).3 ∙ q in impossible cc)
