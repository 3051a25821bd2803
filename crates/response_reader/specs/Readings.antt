-- What the two calls of the reader give.
use Rattle.std.specs.Prelude.{◌≡◌, ℕ, List, map, length, take, drop, Result, Ok, Err}
use denote.Ref.{Bor}
use Rattle.model.specs.Commands as model
use Rattle.model.specs.Commands.{refused, gave}
use Rattle.model.specs.Reader as Reader
use Rattle.model.specs.Reader.{Part}
use Rattle.tlv.specs.Firsts.{firsts}
use Rattle.fields.specs.declared.refusals.Refusal.{Refusal}
use Rattle.fields.specs.Refusals.{number}
use Rattle.response_reader.specs.declared.readings.Reading.{Reading}
use Rattle.response_reader.specs.declared.readings.Columns as code

-- what a call gave, or its refusal by its number
abbrev pub answer : {A : Type 0} → Result A Refusal → model.Result A
answer (Err r) = refused (number r)
answer (Ok a) = gave a

-- the bytes that the first call lends
abbrev pub lent : Result (Bor (List ℕ)) Refusal → model.Result (List ℕ)
lent (Err r) = refused (number r)
lent (Ok p) = gave p.now

-- the signed stretch of the caller's bytes
abbrev pub signed_bytes : model.Result Reader.Reading → List ℕ → model.Result (List ℕ)
signed_bytes (refused n) s = refused n
signed_bytes (gave r) s = gave (take r.signed.size (drop r.signed.place s))

-- one number of each of the first 17 parts, and 0 for each that is lacking
abbrev pub column : (Part → ℕ) → List Part → List ℕ
column f ps = firsts 0 17 (map f ps)

-- three columns and the number of entries that they have
pub record Columns : Type 0 where
  pub tags : List ℕ
  pub places : List ℕ
  pub lengths : List ℕ
  pub len : ℕ

abbrev pub columns : (tags places lengths : List ℕ) → ℕ → Columns
columns ts ps ls n = record { tags = ts; places = ps; lengths = ls; len = n }

-- what the code's columns hold
abbrev pub held : code.Columns → Columns
held c = columns c.tags.now c.places.now c.lengths.now c.count

-- they are still the caller's
pub record Same (old new : code.Columns) : Type 0 where
  pub tags : new.tags.ghost_name ≡ old.tags.ghost_name
  pub places : new.places.ghost_name ≡ old.places.ghost_name
  pub lengths : new.lengths.ghost_name ≡ old.lengths.ghost_name

-- the first 17 parts, column by column
unfoldable pub parts_of : List Part → Columns
parts_of ps = columns (column (λ p. p.tag) ps) (column (λ p. p.place) ps) (column (λ p. p.size) ps) (length (take 17 ps))

-- what the second call gives and leaves
pub record Left : Type 0 where
  pub reading : model.Result Reading
  pub tags : List ℕ
  pub places : List ℕ
  pub lengths : List ℕ

abbrev pub left : Result Reading Refusal → (tags places lengths : List ℕ) → Left
left r ts ps ls = record { reading = answer r; tags = ts; places = ps; lengths = ls }

-- by the model's result and the columns lent
unfoldable pub reading_of : model.Result Reader.Reading → (tags places lengths : List ℕ) → Left
reading_of (refused n) ts ps ls = record { reading = refused n; tags = ts; places = ps; lengths = ls }
reading_of (gave r) ts ps ls =
    record {
      reading = gave (record { tag = r.tag; status = r.status; count = length r.fields });
      tags = column (λ p. p.tag) r.fields;
      places = column (λ p. p.place) r.fields;
      lengths = column (λ p. p.size) r.fields;
    }
