-- All that the firmware gets back from the two calls of the reader. After a refusal nothing that it lent has changed.
use Rattle.std.specs.Prelude.{ℕ, List, length}
use Rattle.model.specs.Commands.{Result, refused, gave}
use Rattle.model.specs.Reader.{Reading}
use Rattle.response_reader.specs.Readings.{column}

-- the signed structure: the refusal number, or 0; its place and its length
pub record ReturnedPart : Type 0 where
  pub code : ℕ
  pub place : ℕ
  pub size : ℕ

-- the refusal number, or 0, the place and the length of a signed structure, as one
abbrev pub points : ℕ → ℕ → ℕ → ReturnedPart
points c p n = record { code = c; place = p; size = n }

-- what the firmware gets from a first call with this result that was lent these
unfoldable pub pointed : Result Reading → ReturnedPart → ReturnedPart
pointed (refused n) b = points n b.place b.size
pointed (gave r) b = points 0 r.signed.place r.signed.size

-- the fields: the refusal number, or 0; the response tag, the status, the number of fields, and of each its tag, its value's place and length
pub record ReturnedFields : Type 0 where
  pub code : ℕ
  pub tag : ℕ
  pub status : ℕ
  pub count : ℕ
  pub tags : List ℕ
  pub places : List ℕ
  pub lengths : List ℕ

-- the refusal number, or 0, the three numbers and the three columns of a second call, as one
abbrev pub gets_fields : (code tag status count : ℕ) → (tags places lengths : List ℕ) → ReturnedFields
gets_fields c t u n ts ps ls = record { code = c; tag = t; status = u; count = n; tags = ts; places = ps; lengths = ls }

-- what the firmware gets from a second call with this result that was lent these
unfoldable pub returned_fields : Result Reading → ReturnedFields → ReturnedFields
returned_fields (refused n) b = gets_fields n b.tag b.status b.count b.tags b.places b.lengths
returned_fields (gave r) b =
    gets_fields 0 r.tag r.status (length r.fields) (column (λ p. p.tag) r.fields) (column (λ p. p.place) r.fields)
    (column (λ p. p.size) r.fields)
