-- Which records are chosen.
use Rattle.std.specs.Prelude.{◌≡◌, ℕ, suc, ◌≤◌, ◌<◌, Bool, ◌&&◌, ◌||◌, List, [], ◌∷◌, map, length, take, get_or}
use Rattle.model.specs.Lists.{cons_if, empty, eq_bytes, among}
use Rattle.model.specs.Records as model
use Rattle.stored_table.specs.Stored.{no_record}

-- a record is chosen: "records with the lent mixed token and, if key handles are given, a KeyID among them"
abbrev pub is_chosen : List ℕ → List (List ℕ) → model.Record → Bool
is_chosen m handles r = eq_bytes r.mixed m && (empty handles || among r.key_id handles)

-- the numbers of the elements that pass a test, the first of the list having number i
unfoldable pub positions : {A : Type 0} → (A → Bool) → ℕ → List A → List ℕ
positions p i [] = []
positions p i (x ∷ xs) = cons_if (p x) i (positions p (suc i) xs)

-- the records with these numbers were chosen: n of them, whose numbers stand first here
pub record ChosenAre (is chosen : List ℕ) (n : ℕ) : Type 0 where
  pub within : n ≤ length chosen
  pub are : take n chosen ≡ is

-- these are numbers of records of this table, no more than a mixed token has
pub record ChosenOf (t : model.Table) (is : List ℕ) : Type 0 where
  pub few : length is ≤ 8
  pub each : (i : ℕ) → i < length is → get_or is i 0 < length t

-- the records that have these numbers
abbrev pub records_at : model.Table → List ℕ → model.Table
records_at t is = map (λ i. get_or t i no_record) is
