-- The stored form as it is read: a table record by record, and the whole of it.
-- Assumes nothing.
use mathlib.Core.Path.{◌≡◌, refl, ap}
use mathlib.Core.List.{List, [], ◌∷◌, ◌++◌, map, map-append}
use Prim.Native.Nat.{ℕ, zero, suc, ◌+◌, ◌≤◌, ◌<◌}
use native.Mathlib.Numerals.{add-one}
use native.Mathlib.Omega.{arith}
use lib.ListN.{length, get_or, take, set, replicate, length-set, length-map}
use lib.Seq.{take-suc, take_all, length-take-le}
use Rattle.model.specs.Records as model
use Rattle.tlv.specs.Firsts.{firsts}
use Rattle.tlv.proofs.FirstLaws.{length-firsts}
use Rattle.stored_table.specs.Stored.{no_record}
use Rattle.key_table.specs.Views.{spare_record, record_value, table_value}
use Rattle.key_table.specs.declared.records.Record.{Record}
use Rattle.key_table.specs.declared.records.Table.{Table}

-- ---- a table, record by record

-- an array of zeros
pub firsts_none : (n : ℕ) → firsts {A = ℕ} 0 n [] ≡ replicate n 0
unfolding firsts
firsts_none zero = refl
firsts_none (suc n) = ap (λ (k : List ℕ). 0 ∷ k) (firsts_none n)

-- one element more in an array that has room
firsts-set : {A : Type 0} (z : A) (n : ℕ) (l : List A) (x : A) → length l < n → set (firsts z n l) (length l) x ≡ firsts z n (l ++ (x ∷ []))
unfolding firsts
firsts-set z zero l x h = absurd (omega arith)
firsts-set z (suc n) [] x h = refl
firsts-set z (suc n) (y ∷ l) x h = ap (λ (k : List _). y ∷ k) (firsts-set z n l x (omega arith))

value-next : (t : model.Table) (r : model.Record) → length t < 32
    → set (table_value t).records (length t) (record_value r) ≡ (table_value (t ++ (r ∷ []))).records
unfolding table_value
value-next t r h =
    let e : length (map record_value t) ≡ length t = length-map t record_value in
    rw (← e, map-append record_value t (r ∷ [])) (firsts-set spare_record 32 (map record_value t) (record_value r) (omega arith))

-- the first i records of a table are read, and behind them are spare ones
pub record Values (t : model.Table) (records : List Record) (i : ℕ) : Type 0 where
  pub size : length records ≡ 32
  pub are : records ≡ (table_value (take i t)).records

pub values_none : (t : model.Table) {v : Table} → v ≡ table_value [] → Values t v.records 0
unfolding table_value
values_none t e = rw e (record { size = length-firsts spare_record 32 []; are = refl })

-- one record more
pub values-more : (t : model.Table) {i : ℕ} → i < length t → length t ≤ 32 → {records : List Record} → Values t records i
    → {r : Record} → r ≡ record_value (get_or t i no_record) → Values t (set records i r) (i + 1)
values-more t {i} h few {records} p {r} e =
    let n : length (take i t) ≡ i = length-take-le i t (omega arith) in
    record {
      size = rw length-set p.size;
      are = rw (e, add-one, take-suc t i no_record h, p.are) (rw n at (value-next (take i t) (get_or t i no_record) (omega arith)));
    }

-- all records
pub values-all : (t : model.Table) {records : List Record} {i n : ℕ} → Values t records i → i ≡ n → n ≡ length t
    → record { records = records; len = n } ≡ table_value t
unfolding table_value
values-all t {i = i} p h k = rw (p.are, take_all i t (omega (arith, h, k)), k)
