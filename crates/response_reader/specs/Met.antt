-- The TLVs of a stretch in the order in which one walk meets them: into each that holds others, past each that does not.
use Rattle.std.specs.Prelude.{ℕ, zero, suc, ◌+◌, cond, List, [], ◌∷◌, length, drop, leb}
use Rattle.model.specs.Lists.{select, first}
use Rattle.model.specs.Tlv.{num}
use Rattle.model.specs.Reader.{Part, holds, Stretch, stretch, is_signed}
use Rattle.tlv.specs.Spans.{span}
use Rattle.tlv.specs.declared.heads.Span.{Span}

-- the part with this tag, place and length
abbrev pub part_at : ℕ → ℕ → ℕ → Part
part_at t at n = record { tag = t; place = at; size = n }

-- the TLVs that are met after k bytes of a stretch that starts at a place
unfoldable pub met_past : ℕ → ℕ → List ℕ → List Part
met_past zero at [] = []
met_past zero at (a ∷ []) = []
met_past zero at (a ∷ b ∷ []) = []
met_past zero at (a ∷ b ∷ c ∷ []) = []
met_past zero at (a ∷ b ∷ c ∷ d ∷ s) =
    let t = num (a ∷ b ∷ []) in
    let n = num (c ∷ d ∷ []) in
    cond (leb n (length s)) (part_at t (at + 4) n ∷ met_past (cond (holds t) 0 n) (at + 4) s) []
met_past (suc k) at [] = []
met_past (suc k) at (b ∷ s) = met_past k (at + 1) s

-- from a place of a stretch on
unfoldable pub met : List ℕ → ℕ → List Part
met s at = met_past 0 at (drop at s)

-- a stretch of the model as a part
abbrev pub span_of : Stretch → Span
span_of p = span p.place (p.place + p.size)

-- the first signed structure
abbrev pub signed_met : List ℕ → Span
signed_met s = span_of (stretch (first (select (λ p. is_signed p.tag) (met s 0))))
