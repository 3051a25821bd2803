-- The view of a table by value: its length, its record at a place, its first records.
-- Assumes nothing.
use mathlib.Core.Path.{◌≡◌, ap, ◌∙◌}
use mathlib.Core.List.{map}
use Prim.Native.Nat.{ℕ, ◌≤◌, ◌<◌}
use lib.ListN.{length, get_or, take, length-map, get_or-map}
use lib.Seq.{get_or-take}
use Rattle.tlv.specs.Firsts.{firsts}
use Rattle.tlv.proofs.FirstLaws.{firsts-take, length-firsts}
use Rattle.stored_table.specs.Stored.{no_record}
use Rattle.key_table.specs.Views.{view_record, view_table, no_value}
use Rattle.key_table.specs.declared.records.Table.{Table}

pub length-view : (t : Table) → length (view_table t) ≡ t.len
unfolding view_table
length-view t = simp (length-map, length-firsts no_value t.len t.records)

module _ (t : Table) (fits : t.len ≤ length t.records) where
  pub view-take : view_table t ≡ map view_record (take t.len t.records)
  unfolding view_table
  view-take = ap (map view_record) (firsts-take no_value t.len t.records fits)

  pub value-at : (i : ℕ) → i < t.len → get_or (view_table t) i no_record ≡ view_record (get_or t.records i no_value)
  unfolding firsts
  value-at i h =
      rw view-take
      (get_or-map view_record (take t.len t.records) i no_value
      ∙ ap view_record (get_or-take t.len t.records i no_value h))
