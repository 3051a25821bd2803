-- Whether a record can be taken back: the newest of its mixed token decides, and a walk from the last record down finds it.
-- Assumes nothing.
use mathlib.Core.Path.{◌≡◌, refl, sym, ap, ◌∙◌}
use mathlib.Core.Bool.{Bool, true, false, not, cond, ◌&&◌}
use mathlib.Core.List.{List, [], ◌∷◌, ◌++◌, append_assoc, append-nil}
use Prim.Native.Nat.{ℕ, suc, ◌+◌, ◌<◌}
use native.Mathlib.Omega.{arith}
use lib.ListN.{length, get_or, take, length-append}
use lib.Seq.{take-suc, take_all, get_or-append_seam}
use lib.Dec.{eqb}
use Rattle.model.specs.Lists.{all, any, cons_if, eq_bytes, among, distinct}
use Rattle.model.specs.Records as model
use Rattle.model.specs.Records.{own, key_ids, has_mixed}
use Rattle.model.specs.Commands.{judge}
use Rattle.model.proofs.Basics.{split, eq_bytes-eq, select-append}
use Rattle.model.proofs.Kept.{select_keeps}
use Rattle.model.proofs.Rules.{tests}
use Rattle.model.proofs.Edges.{other, others}
use Rattle.model.proofs.WithdrawalLaws.{signed, signed-at, last-past}
use Rattle.tlv.specs.Rows.{row}
use Rattle.stored_table.specs.Stored.{no_record, mixed_at, record_at, Stands, table_in, Indexed}
use Rattle.stored_table.specs.Newest.{withdrawable}
use Rattle.stored_table.proofs.IndexLaws.{RecordIs, record-at, length-places}

-- ---- the newest decides

among_at : (k : List ℕ) (t : model.Table) (r : model.Record) → eq_bytes r.key_id k ≡ true → among k (key_ids (t ++ (r ∷ []))) ≡ true
among_at k [] r e = rw e
among_at k (q ∷ t) r e = split (eq_bytes q.key_id k) (λ f. rw f) (λ f. rw f (among_at k t r e))

-- three checks, the last of which fails: none of them passes all
last-fails : (a b : Bool) → cond a false (cond b false false) ≡ false
last-fails true b = refl
last-fails false true = refl
last-fails false false = refl

pub newest_decides : (k : List ℕ) (t : model.Table) (r : model.Record) → distinct (key_ids (t ++ (r ∷ []))) ≡ true
    → withdrawable k (t ++ (r ∷ [])) ≡ (eq_bytes r.key_id k && eqb r.count 0)
unfolding withdrawable judge
newest_decides k t r d =
    let l = last-past k [] t r [] in
    split (eq_bytes r.key_id k)
    (λ e.
    let o = ap (λ j. all (other j) (t ++ [])) (sym (eq_bytes-eq r.key_id k e)) ∙ others t r [] d in
    rw (l, among_at k t r e, signed-at k t r [] o, e) (split (eqb r.count 0) (λ f. rw f) (λ f. rw f)))
    (λ e. rw (l, e) (last-fails (not (among k (key_ids (t ++ (r ∷ []))))) (any (signed k) (t ++ (r ∷ [])))))

-- ---- a walk over the places of a stored table, from the last one down

-- these places are the first of all, and no record behind them is the mixed token's: its records are those that stand there
pub record NoneBehind (m table places left : List ℕ) : Type 0 where
  pub behind : List ℕ
  pub are : left ++ behind ≡ places
  pub before : own m (take (length left) (table_in table)) ≡ own m (table_in table)

module _ (m : List ℕ) {table places : List ℕ} (x : Indexed table places) where
  pub none_behind : {left : List ℕ} → left ≡ places → NoneBehind m table places left
  none_behind e =
      rw e
      (record {
        behind = [];
        are = append-nil places;
        before = ap (own m) (take_all (length places) (table_in table) (omega (arith, length-places x)));
      })

  module _ {left : List ℕ} (w : NoneBehind m table places left) (rest : List ℕ) (p : ℕ) (e : left ≡ rest ++ (p ∷ [])) where
    last_are : rest ++ (p ∷ w.behind) ≡ places
    last_are = sym (append_assoc rest (p ∷ []) w.behind) ∙ ap (λ (l : List ℕ). l ++ w.behind) (sym e) ∙ w.are

    last_within : length rest < length places
    last_within = omega (arith, ap length last_are, length-append rest (p ∷ w.behind))

    -- the record at the last of these places
    last-is : RecordIs table p (get_or (table_in table) (length rest) no_record)
    last-is =
        let i : get_or places (length rest) 0 ≡ p = ap (λ (l : List ℕ). get_or l (length rest) 0) (sym last_are) ∙ get_or-append_seam rest p w.behind 0 in
        rw i at (record-at x (length rest) last_within)

    pub last-stands : Stands table p
    last-stands = last-is.stands

    module _ {b : Bool} (f : b ≡ eq_bytes (row (p + mixed_at) table) m) where
      -- those that stand at these places, where b says whether the last is one
      by_last : own m (table_in table) ≡ own m (take (length rest) (table_in table)) ++ cons_if b (record_at table p) []
      unfolding own record_at
      by_last =
          let t = table_in table in
          let n : length left ≡ suc (length rest) = omega (arith, ap length e, length-append rest (p ∷ [])) in
          let i : get_or t (length rest) no_record ≡ record_at table p = sym last-is.is in
          let k : length rest < length t = omega (arith, last_within, length-places x) in
          sym w.before ∙ rw (n, take-suc t (length rest) no_record k, i, select-append (has_mixed m) (take (length rest) t) (record_at table p ∷ []), ← f)

      pub not-its-own : b ≡ false → NoneBehind m table places rest
      not-its-own g =
          record {
            behind = p ∷ w.behind;
            are = last_are;
            before = sym (by_last ∙ rw g (append-nil (own m (take (length rest) (table_in table)))));
          }

      pub is_newest : (k : List ℕ) → b ≡ true → {a : Bool} → a ≡ (eq_bytes (record_at table p).key_id k && eqb (record_at table p).count 0)
          → a ≡ withdrawable k (own m (table_in table))
      unfolding own
      is_newest k g a =
          let t = table_in table in
          let o : own m t ≡ own m (take (length rest) t) ++ (record_at table p ∷ []) = by_last ∙ rw g in
          let d : distinct (key_ids (own m t)) ≡ true = (select_keeps (has_mixed m) t (tests t x.ok)).once in
          a ∙ sym (newest_decides k (own m (take (length rest) t)) (record_at table p) (rw o at d)) ∙ rw (← o)

-- no place is left
pub none_newest : (m k : List ℕ) {table places left : List ℕ} → NoneBehind m table places left → length left ≡ 0
    → false ≡ withdrawable k (own m (table_in table))
unfolding withdrawable judge own
none_newest m k {table} w e = let n : own m (take 0 (table_in table)) ≡ own m (table_in table) = rw e at w.before in rw (← n)
