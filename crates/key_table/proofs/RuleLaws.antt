-- The record rules of a record and of a table by value: what the arrays' lengths leave to test.
-- Assumes nothing.
use mathlib.Core.Path.{◌≡◌, refl, sym, ap, ◌∙◌}
use mathlib.Core.Bool.{true, false, ◌&&◌, and-true}
use mathlib.Core.List.{List, [], ◌∷◌, map}
use Prim.Native.Nat.{ℕ, ◌≤◌, ◌<◌}
use native.Mathlib.Omega.{arith}
use lib.Dec.{leb}
use lib.ListN.{length, take, get_or}
use lib.Seq.{get_or-take, length-take-le}
use borrow.Author.Tests.{leb-true, le-leb, lt-leb}
use Rattle.std.specs.List.{list_all}
use Rattle.model.specs.Lists.{all}
use Rattle.model.specs.Tlv.{fits, key_id, mixed_token, username}
use Rattle.model.specs.Records.{record_ok, max_count, max_records}
use Rattle.model.proofs.Basics.{and_left, and_right}
use Rattle.model.proofs.LayoutLaws.{size_fits}
use Rattle.model.proofs.LayoutWritten.{member, all_member}
use Rattle.model.proofs.Rules.{record_rules}
use Rattle.tlv.specs.Firsts.{firsts}
use Rattle.tlv.proofs.FirstLaws.{firsts-take, length-firsts}
use Rattle.stored_table.specs.Stored.{no_record}
use Rattle.key_table.specs.Views.{view_record, view_table, no_value}
use Rattle.key_table.specs.declared.records.Record.{Record}
use Rattle.key_table.specs.declared.records.Table.{Table}
use Rattle.key_table.proofs.ViewLaws.{length-view, view-take, value-at}

-- ---- a record

long_name : (v : List ℕ) → 128 < length v → fits username v ≡ false
unfolding fits
long_name v h = let k : 1 ≤ length v = omega arith in simp (le-leb _ _ k, lt-leb _ _ h)

-- a record whose arrays are as long, and whose counter as small, as their types say
pub record Typed (r : Record) : Type 0 where
  pub key-id : length r.key_id ≡ 32
  pub mixed : length r.mixed ≡ 32
  pub name : length r.name ≡ 128
  pub count : r.count ≤ max_count

module _ (r : Record) (typed : Typed r) where
  -- of its record only the name is left to test
  name_decides : record_ok (view_record r) ≡ fits username (firsts 0 r.name_len r.name)
  unfolding record_ok
  name_decides =
      let k : fits key_id r.key_id ≡ true = size_fits key_id r.key_id (omega arith) (omega arith) refl in
      let m : fits mixed_token r.mixed ≡ true = size_fits mixed_token r.mixed (omega arith) (omega arith) refl in
      simp (k, m, le-leb r.count max_count typed.count) (and-true (fits username (firsts 0 r.name_len r.name)))

  pub name_long : 128 < r.name_len → record_ok (view_record r) ≡ false
  name_long h = name_decides ∙ long_name _ (rw (length-firsts 0 r.name_len r.name) h)

  pub name-within : r.name_len ≤ 128 → record_ok (view_record r) ≡ fits username (take r.name_len r.name)
  name-within h = name_decides ∙ ap (fits username) (firsts-take 0 r.name_len r.name (omega arith))

-- ---- a table

pub too_many : (t : Table) → 32 < t.len → false ≡ (leb (length (view_table t)) max_records && all record_ok (view_table t))
too_many t h = rw (length-view t, lt-leb t.len 32 h)

-- the record rules, asked of each record by value
all_viewed : (rs : List Record) → list_all (λ r. record_ok (view_record r)) rs ≡ all record_ok (map view_record rs)
all_viewed [] = refl
all_viewed (r ∷ rs) = ap (λ b. record_ok (view_record r) && b) (all_viewed rs)

pub few_obey : (t : Table) → t.len ≤ 32 → t.len ≤ length t.records
    → list_all (λ r. record_ok (view_record r)) (take t.len t.records) ≡ (leb (length (view_table t)) max_records && all record_ok (view_table t))
few_obey t h fits =
    let e : all record_ok (map view_record (take t.len t.records)) ≡ all record_ok (view_table t) = ap (all record_ok) (sym (view-take t fits)) in
    all_viewed (take t.len t.records) ∙ e ∙ rw (length-view t, le-leb t.len 32 h)

-- what the rules of its records say of a table by value: how many it has, and a name's length
module _ (t : Table) (ok : (leb (length (view_table t)) max_records && all record_ok (view_table t)) ≡ true) where
  pub few-records : t.len ≤ 32
  few-records =
      let few : length (view_table t) ≤ max_records = leb-true _ _ (and_left (leb (length (view_table t)) max_records) _ ok) in
      omega (arith, length-view t)

  pub short-name : t.len ≤ length t.records → {rs : List Record} → rs ≡ take t.len t.records → (i : ℕ) → i < length rs
      → (get_or rs i no_value).name_len ≤ 128
  short-name fits {rs} e i h =
      let n : i < t.len = omega (arith, ap length e, length-take-le t.len t.records fits) in
      let same : get_or rs i no_value ≡ get_or t.records i no_value = rw e (get_or-take t.len t.records i no_value n) in
      let r : Record = get_or t.records i no_value in
      let k : i < length (view_table t) = rw (length-view t) n in
      let m : record_ok (view_record r) ≡ true = rw (value-at t fits i n) at
      (all_member record_ok (member i no_record (view_table t) k) (and_right (leb (length (view_table t)) max_records) _ ok)) in
      rw same (omega (arith, (record_rules (view_record r) m).name-most, length-firsts 0 r.name_len r.name))
