-- Places in a stretch, as a structure in it is read: where the next thing starts, or past the end where something else stands.
use Rattle.std.specs.Prelude.{ℕ, ◌+◌, Bool, cond, ◌&&◌, List, length, drop, leb, eqb}
use Rattle.model.specs.Tlv.{Rule, Field, rule_of}
use Rattle.model.specs.Layouts.{Layout, reads}
use Rattle.tlv.specs.Heads.{head_at, between}
use Rattle.tlv.specs.declared.heads.Head.{Head}
use Rattle.tlv.specs.declared.heads.Head.TheVariants.{Tlv, Bad, End}

-- one past the end, where nothing is found
abbrev pub nowhere : List ℕ → ℕ
nowhere s = length s + 1

-- a layout reads a stretch from a place on; from past the end it reads nothing, and so no layout does
unfoldable pub reads_at : Layout → List ℕ → ℕ → Bool
reads_at l s at = leb at (length s) && reads l (drop at s)

-- the place after it, if this is a TLV with this tag whose value passes a test
abbrev pub past_head : ℕ → (List ℕ → Bool) → List ℕ → Head → ℕ
past_head t p s (Tlv tag start end) = cond (eqb tag t && p (between s start end)) end (nowhere s)
past_head t p s Bad = nowhere s
past_head t p s End = nowhere s

unfoldable pub after_tlv : ℕ → (List ℕ → Bool) → List ℕ → ℕ → ℕ
after_tlv t p s at = past_head t p s (head_at s at)

-- after a value that obeys a rule; after a field; after a group
abbrev pub obeys : Rule → List ℕ → Bool
obeys r v = leb r.least (length v) && leb (length v) r.most && r.allowed v

abbrev pub after_rule : Rule → List ℕ → ℕ → ℕ
after_rule r s at = after_tlv r.tag (obeys r) s at

abbrev pub after_field : Field → List ℕ → ℕ → ℕ
after_field f s at = after_rule (rule_of f) s at

abbrev pub after_group : ℕ → Layout → List ℕ → ℕ → ℕ
after_group t inner s at = after_tlv t (reads inner) s at

-- the value's place, if this is a TLV with this tag that ends with the stretch
abbrev pub in_head : ℕ → List ℕ → Head → ℕ
in_head t s (Tlv tag start end) = cond (eqb tag t && eqb end (length s)) start (nowhere s)
in_head t s Bad = nowhere s
in_head t s End = nowhere s

-- in a group that ends with the stretch
unfoldable pub in_group : ℕ → List ℕ → ℕ → ℕ
in_group t s at = in_head t s (head_at s at)
