-- Whether a stretch is a response, and where its signed structure stands, as the code tells it.
use Rattle.std.specs.Prelude.{◌≡◌, ℕ, ◌+◌, true, false, List, Option, Some, None}
use Rattle.std.specs.Bool.{then_some}
use Rattle.model.specs.Reader.{is_response}
use Rattle.tlv.specs.Numbers.{num_at}
use Rattle.tlv.specs.Spans.{span, no_span}
use Rattle.tlv.specs.declared.heads.Span.{Span}
use Rattle.response_reader.specs.Met.{signed_met}
use Rattle.response_reader.specs.Responses.{Longer}
use Rattle.response_reader.specs.declared.shapes.Opening.{Opening}
use Rattle.response_reader.specs.declared.shapes.Opening.TheVariants.{Alone, Longer as MoreAfter}

-- the signed structure of a response; none of what is no response
unfoldable pub shape_of : List ℕ → Option Span
shape_of s = then_some (is_response s) (signed_met s)

-- what is known of a stretch by how it starts
abbrev pub OpeningIs : List ℕ → Option Opening → Type 0
OpeningIs s None = is_response s ≡ false
OpeningIs s (Some Alone) = (is_response s ≡ true) × (no_span ≡ signed_met s)
OpeningIs s (Some (MoreAfter t)) = Longer t s

-- the signed structure of a completed response: the TLV at place 18
abbrev pub signed_at : List ℕ → Span
signed_at s = span 18 (22 + num_at 2 s 20)
