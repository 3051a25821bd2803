-- Parts of a stretch.
use Rattle.std.specs.Prelude.{ℕ, ◌≤◌, List, length}
use Rattle.tlv.specs.declared.heads.Span.{Span}

-- the part from a place up to another
abbrev pub span : ℕ → ℕ → Span
span start end = record { start = start; end = end }

-- an empty part at the front
abbrev pub no_span : Span
no_span = span 0 0

-- a part lies in a stretch
pub record Inside (s : List ℕ) (p : Span) : Type 0 where
  pub ordered : p.start ≤ p.end
  pub within : p.end ≤ length s
