-- The rows that a value of `Rows` stands for.
use Rattle.std.specs.Prelude.{ℕ, List}
use Rattle.tlv.specs.Rows.{rows}
use Rattle.tlv.specs.declared.rows.Rows.{Rows}

abbrev pub rows_of : Rows → List (List ℕ)
rows_of r = rows r.off r.places.now r.stretch.now
