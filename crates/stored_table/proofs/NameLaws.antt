-- How many bytes the names of some records of a stored table take.
-- Assumes nothing.
use mathlib.Core.Path.{◌≡◌, refl, ◌∙◌}
use mathlib.Core.List.{List, [], ◌∷◌}
use Prim.Native.Nat.{ℕ, suc, ◌*◌, ◌≤◌, ◌<◌}
use native.Mathlib.Omega.{arith}
use lib.ListN.{length, get_or}
use Rattle.std.specs.List.{sum_by}
use Rattle.std.proofs.lemmas.Grind.{get_or_default_zero}
use Rattle.std.proofs.lemmas.List.Sums.{sum_by-cons}
use Rattle.model.specs.Records as model
use Rattle.stored_table.specs.Stored.{no_record, name_size, Stands, table_in, Indexed}
use Rattle.stored_table.specs.Chosen.{ChosenOf}
use Rattle.stored_table.proofs.IndexLaws.{few_places, has_place, stands_at, sized_at, short_at}

-- how long the name of the record of a number is, where it is stored
abbrev pub size_at : (table places : List ℕ) → ℕ → ℕ
size_at table places j = name_size table (get_or places j 0)

-- a record of this number is stored
pub record Named (table places : List ℕ) (j : ℕ) : Type 0 where
  pub within : j < length places
  pub near : j < 32
  pub stands : Stands table (get_or places j 0)
  pub short : size_at table places j ≤ 128

module _ {table places : List ℕ} (x : Indexed table places) {t : model.Table} (v : table_in table ≡ t) where
  there : (j : ℕ) → j < length t → Named table places j
  there j h =
      let w = has_place x v j h in
      record { within = w; near = omega (arith, w, few_places x); stands = stands_at x v j h; short = short_at x v j h }

  sizes : (is : List ℕ) → ((i : ℕ) → i < length is → get_or is i 0 < length t)
      → (sum_by (size_at table places) is ≡ sum_by (λ j. length (get_or t j no_record).name) is) × (sum_by (size_at table places) is ≤ 128 * length is)
  sizes [] each = (refl, omega arith)
  sizes (j ∷ is) each =
      let h = each 0 (omega arith) in
      let rest = sizes is (λ i h. each (suc i) (omega arith)) in
      let sum = sum_by-cons (size_at table places) j is in (
        omega (arith, sum, rest, sized_at x v j h, sum_by-cons (λ j. length (get_or t j no_record).name) j is),
        omega (arith, sum, rest, short_at x v j h),
      )

  module _ {named : List ℕ} (o : ChosenOf t named) where
    pub named_item : (j i : ℕ) → i < length named → j ≡ get_or named i j → Named table places j
    named_item j i h e = rw (e ∙ get_or_default_zero named i j h) (there _ (o.each i h))

    pub names-sum : sum_by (size_at table places) named ≡ sum_by (λ j. length (get_or t j no_record).name) named
    names-sum = (sizes named o.each).0

    pub names-most : sum_by (size_at table places) named ≤ 1024
    names-most = omega (arith, (sizes named o.each).1, o.few)
