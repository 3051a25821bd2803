-- Headers at a place.
use Rattle.std.specs.Prelude.{ℕ, ◌+◌, ◌-◌, cond, List, length, take, drop, leb}
use Rattle.tlv.specs.Numbers.{num_at}
use Rattle.tlv.specs.declared.heads.Span.{Span}
use Rattle.tlv.specs.declared.heads.Head.{Head}
use Rattle.tlv.specs.declared.heads.Head.TheVariants.{Tlv, Bad, End}

-- past the end: End; a header whose value ends within the stretch: Tlv; else Bad
unfoldable pub head_at : List ℕ → ℕ → Head
head_at s at =
    cond (leb (length s) at) End
    (cond (leb (at + 4 + num_at 2 s (at + 2)) (length s)) (Tlv (num_at 2 s at) (at + 4) (at + 4 + num_at 2 s (at + 2))) Bad)

-- the bytes from a place up to another
abbrev pub between : List ℕ → ℕ → ℕ → List ℕ
between s start end = take (end - start) (drop start s)

-- a part's bytes
abbrev pub part : List ℕ → Span → List ℕ
part s p = between s p.start p.end
