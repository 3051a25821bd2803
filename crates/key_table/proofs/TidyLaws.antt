-- The view of a table of the model by value is that table again, and a table by value whose spare bytes are zero is determined by its view.
-- Assumes nothing.
use mathlib.Core.Path.{◌≡◌, refl, sym, ap, ◌∙◌}
use mathlib.Core.Bool.{true}
use mathlib.Core.List.{List, [], ◌∷◌, map}
use Prim.Native.Nat.{ℕ, zero, suc, ◌≤◌, ◌<◌}
use native.Mathlib.Omega.{arith}
use lib.ListN.{length, get_or, drop, length-map}
use Rattle.model.specs.Lists.{all}
use Rattle.model.specs.Records as model
use Rattle.model.specs.Records.{record_ok}
use Rattle.model.proofs.Basics.{and_left, and_right}
use Rattle.model.proofs.Rules.{record_rules}
use Rattle.tlv.specs.Firsts.{firsts}
use Rattle.tlv.proofs.FirstLaws.{length-firsts, firsts-firsts}
use Rattle.key_table.specs.Views.{view_record, view_table, no_value, spare_record, record_value, table_value, TidyRecord, Tidy}
use Rattle.key_table.specs.declared.records.Record.{Record}
use Rattle.key_table.specs.declared.records.Table.{Table}

view_of_record : (r : model.Record) → record_ok r ≡ true → view_record (record_value r) ≡ r
view_of_record r ok = rw (firsts-firsts 0 128 r.name (record_rules r ok).name-most)

-- in an array of n records
view_of_records : (n : ℕ) (t : model.Table) → length t ≤ n → all record_ok t ≡ true
    → map view_record (firsts no_value (length t) (firsts spare_record n (map record_value t))) ≡ t
unfolding firsts
view_of_records n [] h ok = refl
view_of_records zero (r ∷ t) h ok = absurd (omega arith)
view_of_records (suc n) (r ∷ t) h ok =
    cc (view_of_record r (and_left (record_ok r) _ ok), view_of_records n t (omega arith) (and_right (record_ok r) _ ok))

module _ (t : model.Table) (few : length t ≤ 32) (ok : all record_ok t ≡ true) where
  pub view_of_value : view_table (table_value t) ≡ t
  unfolding view_table table_value
  view_of_value = view_of_records 32 t few ok

-- ---- tidy tables are those that are made so, and no others

value_of-view : (r : Record) → TidyRecord r → record_value (view_record r) ≡ r
value_of-view r e = rw (length-firsts 0 r.name_len r.name, ← e)

-- an array of n records, of which the first k count
tidy_records : (n k : ℕ) (rs : List Record) → k ≤ n → ((i : ℕ) → i < k → TidyRecord (get_or rs i no_value))
    → drop k rs ≡ drop k (firsts spare_record n []) → rs ≡ firsts spare_record n (map record_value (map view_record (firsts no_value k rs)))
unfolding firsts
tidy_records n zero rs h names rest = rest
tidy_records zero (suc k) rs h names rest = absurd (omega arith)
tidy_records (suc n) (suc k) [] h names rest =
    let none : List ℕ = [] in
    let e : length none ≡ 128 = ap length (names 0 (omega arith)) ∙ length-firsts {A = ℕ} 0 128 (firsts 0 0 none) in
    absurd (omega arith)
tidy_records (suc n) (suc k) (r ∷ rs) h names rest =
    cc (value_of-view r (names 0 (omega arith)), tidy_records n k rs (omega arith) (λ i l. names (suc i) (omega arith)) rest)

pub tidy_is : (t : Table) → Tidy t → t ≡ table_value (view_table t)
unfolding view_table table_value
tidy_is t p =
    rw (length-map (firsts no_value t.len t.records) view_record, length-firsts no_value t.len t.records, ← tidy_records 32 t.len t.records p.few p.names p.rest)

-- a tidy table is determined by its view
pub tidy_determined : (t u : Table) → Tidy t → Tidy u → view_table t ≡ view_table u → t ≡ u
tidy_determined t u p q e = tidy_is t p ∙ ap table_value e ∙ sym (tidy_is u q)

tidy_record : (r : model.Record) → record_ok r ≡ true → TidyRecord (record_value r)
tidy_record r ok = rw (firsts-firsts 0 128 r.name (record_rules r ok).name-most)

tidy_names : (n : ℕ) (t : model.Table) → length t ≤ n → all record_ok t ≡ true → (i : ℕ) → i < length t
    → TidyRecord (get_or (firsts spare_record n (map record_value t)) i no_value)
unfolding firsts
tidy_names n [] h ok i l = absurd (omega arith)
tidy_names zero (r ∷ t) h ok i l = absurd (omega arith)
tidy_names (suc n) (r ∷ t) h ok zero l = tidy_record r (and_left (record_ok r) _ ok)
tidy_names (suc n) (r ∷ t) h ok (suc i) l = tidy_names n t (omega arith) (and_right (record_ok r) _ ok) i (omega arith)

tidy_rest : (n : ℕ) (t : model.Table) → length t ≤ n
    → drop (length t) (firsts spare_record n (map record_value t)) ≡ drop (length t) (firsts spare_record n [])
unfolding firsts
tidy_rest n [] h = refl
tidy_rest zero (r ∷ t) h = absurd (omega arith)
tidy_rest (suc n) (r ∷ t) h = tidy_rest n t (omega arith)

-- and the value of a table that obeys its records' rules is tidy
pub value_tidy : (t : model.Table) → length t ≤ 32 → all record_ok t ≡ true → Tidy (table_value t)
unfolding table_value
value_tidy t few ok = record { few = few; names = tidy_names 32 t few ok; rest = tidy_rest 32 t few }
