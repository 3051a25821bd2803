-- What a change leaves of a table, over the model's tables: nothing changed, a count set, records removed.
-- Assumes nothing.
use mathlib.Core.Path.{◌≡◌, refl, sym, ap, subst, ◌∙◌}
use mathlib.Core.Bool.{Bool, true, false, not, and-true}
use mathlib.Core.List.{List, [], ◌∷◌}
use Prim.Native.Nat.{ℕ, zero, suc, ◌≤◌, ◌<◌}
use native.Mathlib.Omega.{arith}
use lib.ListN.{length, get_or, set, length-map, get_or-map}
use borrow.Author.Tests.{not-true}
use Rattle.model.specs.Lists.{select, eq_bytes, among, distinct}
use Rattle.model.specs.Records as model
use Rattle.model.specs.Records.{key_ids, has_mixed, table_ok, encode, max_stored}
use Rattle.model.specs.Commands.{keep, set_count, is_key, with_count, apply}
use Rattle.model.proofs.Basics.{split, clash, and_left, and_right, both, or_left, or_right, eq_bytes-refl, eq_bytes-eq, eq_bytes-not, select-same}
use Rattle.model.proofs.Rules.{among_at, tests}
use Rattle.model.proofs.StoredForm.{length-encode}
use Rattle.stored_table.specs.Stored.{no_record, table_in, Indexed}
use Rattle.stored_table.specs.Changes.{removal, goes, change_of, CanCount, Can}
use Rattle.stored_table.specs.declared.left.Change.{Change}

-- ---- by the arm of a change

module _ (s k m : List ℕ) (t : model.Table) {change arm : Change} (e : change ≡ arm) where
  -- the arm of a change can be made, and leaves what the change does
  pub arm_can : Can s k m t change → Can s k m t arm
  arm_can h = rw e at h

  pub arm_apply : apply m (change_of s k t arm) t ≡ apply m (change_of s k t change) t
  arm_apply = rw e

-- ---- nothing changed

pub apply_kept : (m : List ℕ) (t : model.Table) → t ≡ apply m keep t
unfolding apply
apply_kept m t = refl

-- a stored table is as long as its output may have to be, at most
module _ {table places : List ℕ} (x : Indexed table places) where
  pub stored-most : length table ≤ max_stored
  stored-most = subst (λ (s : List ℕ). length s ≤ max_stored) x.whole (length-encode (table_in table) x.ok)

  pub encoded-most : {t : model.Table} → table_in table ≡ t → length (encode t) ≤ max_stored
  encoded-most v = rw (← v) (length-encode (table_in table) x.ok)

-- ---- records removed

-- a record that stays
abbrev pub stays : List ℕ → List ℕ → model.Record → Bool
stays m key r = not (goes m key r)

-- both kinds of removal select the records that stay
pub removal_selects : (m key : List ℕ) (t : model.Table) → apply m (removal key) t ≡ select (stays m key) t
unfolding apply
removal_selects m [] t = select-same (λ r. not (has_mixed m r)) (stays m []) (λ r. rw (and-true (has_mixed m r))) t
removal_selects m (x ∷ key) t = refl

-- ---- a count set

-- no later record has the first one's KeyID
first-only : (r : model.Record) (t : model.Table) → distinct (key_ids (r ∷ t)) ≡ true → among r.key_id (key_ids t) ≡ false
first-only r t d = not-true _ (and_left (not (among r.key_id (key_ids t))) _ d)

module _ (m k : List ℕ) (n : ℕ) where
  -- a record with another KeyID keeps its count
  other : (r : model.Record) → eq_bytes r.key_id k ≡ false → is_key m k r ≡ false
  other r e = split (has_mixed m r) (λ p. rw (p, e)) (λ p. rw p)

  none_set : (t : model.Table) → among k (key_ids t) ≡ false → apply m (set_count k n) t ≡ t
  unfolding apply
  none_set [] e = refl
  none_set (r ∷ t) e =
      let p : is_key m k r ≡ false = other r (or_left (eq_bytes r.key_id k) (among k (key_ids t)) e) in
      rw p (ap (λ (l : model.Table). r ∷ l) (none_set t (or_right (eq_bytes r.key_id k) (among k (key_ids t)) e)))

  -- only the record at i has the KeyID
  set-is-apply : (t : model.Table) (i : ℕ) → distinct (key_ids t) ≡ true → i < length t
      → is_key m k (get_or t i no_record) ≡ true → set t i (with_count (get_or t i no_record) n) ≡ apply m (set_count k n) t
  unfolding apply
  set-is-apply [] i d h e = absurd (omega arith)
  set-is-apply (r ∷ t) zero d h e =
      let q : r.key_id ≡ k = eq_bytes-eq r.key_id k (and_right (has_mixed m r) _ e) in
      rw e (ap (λ (l : model.Table). with_count r n ∷ l) (sym (none_set t (rw q at (first-only r t d)))))
  set-is-apply (r ∷ t) (suc i) d h e =
      let q : (get_or t i no_record).key_id ≡ k = eq_bytes-eq _ k (and_right (has_mixed m (get_or t i no_record)) _ e) in
      let b : among k (key_ids t) ≡ true =
      among_at [] k (key_ids t) i (rw length-map (omega arith)) (get_or-map (λ r. r.key_id) t i no_record ∙ q) in
      let p : is_key m k r ≡ false = other r (eq_bytes-not r.key_id k (λ q. clash b (rw q at (first-only r t d)))) in
      rw p (ap (λ (l : model.Table). r ∷ l)
      (set-is-apply t i (and_right (not (among r.key_id (key_ids t))) _ d) (omega arith) e))

-- a count set in a record of the caller's is set by its KeyID
pub set_counted : {m : List ℕ} {t : model.Table} {i : ℕ} (n : ℕ) → table_ok t ≡ true → CanCount m t i
    → set t i (with_count (get_or t i no_record) n) ≡ apply m (set_count (get_or t i no_record).key_id n) t
set_counted {m} {t} {i} n ok can =
    let key : List ℕ = (get_or t i no_record).key_id in
    set-is-apply m key n t i (tests t ok).once can.there (both can.mine (eq_bytes-refl key))
