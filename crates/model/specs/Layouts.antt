-- The structures that are written and read again are runs of TLVs in a fixed order: one table for the writer and the reader.
use Rattle.std.specs.Prelude.{ℕ, suc, ◌+◌, Bool, true, false, ◌&&◌, List, [], ◌∷◌, drop, get_or, eqb}
use Rattle.model.specs.Tlv.{Tlv, tlv, bytes, tlvs, is_run, Field, tag_of, fits}

-- a run holds: nothing more; a field, then the rest; a TLV with a tag that holds a run, then the rest
pub data Layout : Type 0 where
  end : Layout
  field : Field → Layout → Layout
  group : ℕ → Layout → Layout → Layout

abbrev pub fields : List Field → Layout
fields [] = end
fields (f ∷ fs) = field f (fields fs)

-- how many fields there are, and the run with these values for them, in their order
abbrev pub size : Layout → ℕ
size end = 0
size (field f l) = suc (size l)
size (group t inner l) = size inner + size l

unfoldable pub fill : Layout → List (List ℕ) → List Tlv
fill end vs = []
fill (field f l) vs = tlv (tag_of f) (get_or vs 0 []) ∷ fill l (drop 1 vs)
fill (group t inner l) vs = tlv t (bytes (fill inner vs)) ∷ fill l (drop (size inner) vs)

unfoldable pub write : Layout → List (List ℕ) → List ℕ
write l vs = bytes (fill l vs)

-- a run has these tags in this order, and each field's value fits its rule
unfoldable pub matches : Layout → List Tlv → Bool
matches end [] = true
matches end (t ∷ ts) = false
matches (field f l) [] = false
matches (field f l) (t ∷ ts) = eqb t.tag (tag_of f) && fits f t.value && matches l ts
matches (group g inner l) [] = false
matches (group g inner l) (t ∷ ts) = eqb t.tag g && is_run (matches inner) (tlvs t.value) && matches l ts

unfoldable pub reads : Layout → List ℕ → Bool
reads l s = is_run (matches l) (tlvs s)
