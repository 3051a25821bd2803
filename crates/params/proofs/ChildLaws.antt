-- The children of a command that were walked over, and those that follow a place.
-- Assumes nothing.
use mathlib.Core.Path.{◌≡◌, refl, sym, ap, ◌∙◌}
use mathlib.Core.Bool.{Bool, false, and-false}
use mathlib.Core.List.{List, [], ◌∷◌, ◌++◌, map, append_assoc, append-nil, map-append}
use mathlib.Core.Option
use mathlib.Core.Option.{Option, none, some}
use Prim.Native.Nat.{ℕ, ◌+◌, ◌-◌, ◌≤◌}
use native.Mathlib.Omega.{arith}
use lib.ListN.{length, drop, length-drop, length-append}
use lib.Seq.{drop-drop}
use lib.Dec.{eqb}
use borrow.Author.Tests.{eq-eqb, ne_eqb}
use Rattle.model.specs.Lists.{all, select}
use Rattle.model.specs.Tlv.{Tlv, tlv, tlvs, is_run, Field, tag_of, values_of}
use Rattle.model.proofs.Basics.{select-append}
use Rattle.tlv.specs.Numbers.{num_at}
use Rattle.tlv.specs.Heads.{head_at, between}
use Rattle.tlv.specs.declared.heads.Head.TheVariants.{Bad, End}
use Rattle.tlv.proofs.HeadLaws.{IsTlv, head_end, head_bad, bad_is, end_is, run_end, run_bad, run-tlv}

-- ---- a place of the child run is four bytes further on in the command

-- a child run follows the header of a command
pub record Follows (s run : List ℕ) : Type 0 where
  pub header : 4 ≤ length s
  pub run_is : run ≡ drop 4 s

module _ {s run : List ℕ} (f : Follows s run) where
  size : length s ≡ 4 + length run
  size = let n : length run ≡ length s - 4 = ap length f.run_is ∙ length-drop 4 s in omega (arith, f.header)

  past : (at : ℕ) → drop at run ≡ drop (4 + at) s
  past at = rw f.run_is (drop-drop at 4 s)

  number : (at : ℕ) → num_at 2 run at ≡ num_at 2 s (4 + at)
  unfolding num_at
  number at = rw (past at)

  -- of a value's length
  number-next : (at : ℕ) → num_at 2 run (at + 2) ≡ num_at 2 s (4 + at + 2)
  number-next at = let z : 4 + (at + 2) ≡ 4 + at + 2 = omega arith in number (at + 2) ∙ ap (num_at 2 s) z

  pub past_end : (at : ℕ) → head_at run at ≡ End → head_at s (4 + at) ≡ End
  past_end at e = head_end s (4 + at) (omega (arith, end_is run at e, size))

  pub past_bad : (at : ℕ) → head_at run at ≡ Bad → head_at s (4 + at) ≡ Bad
  past_bad at e =
      let b = bad_is run at e in
      head_bad s (4 + at) (omega (arith, b, size)) (omega (arith, b, size, number-next at))

  pub past-tlv : {at tag start end : ℕ} → IsTlv run at tag start end → IsTlv s (4 + at) tag (4 + start) (4 + end)
  past-tlv {at} i =
      record {
        start_is = omega (arith, i.start_is);
        ordered = omega (arith, i.ordered);
        within = omega (arith, i.within, size);
        tag_is = i.tag_is ∙ number at;
        end_is = omega (arith, i.end_is, number-next at);
      }

  pub past_value : {at tag start end : ℕ} → IsTlv run at tag start end → between run start end ≡ between s (4 + start) (4 + end)
  past_value {start = start} {end = end} i =
      let n : end - start ≡ 4 + end - (4 + start) = omega arith in
      rw (past start, n)

-- ---- what was walked over

-- these were walked over up to a place: with what follows it, if that is a run, they are the children
pub record Walked (s : List ℕ) (at : ℕ) (ws : List Tlv) : Type 0 where
  pub run : tlvs (drop 4 s) ≡ Option.map (λ ts. ws ++ ts) (tlvs (drop at s))

-- with the list of each run taken on
map_same : (o : Option (List Tlv)) → o ≡ Option.map (λ ts. [] ++ ts) o
map_same none = refl
map_same (some ts) = refl

map_more : (ws : List Tlv) (c : Tlv) (o : Option (List Tlv))
    → Option.map (λ ts. ws ++ ts) (Option.map (λ ts. c ∷ ts) o) ≡ Option.map (λ ts. (ws ++ (c ∷ [])) ++ ts) o
map_more ws c none = refl
map_more ws c (some ts) = ap some (sym (append_assoc ws (c ∷ []) ts))

pub walked_none : (s : List ℕ) → Walked s 4 []
walked_none s = record { run = map_same (tlvs (drop 4 s)) }

module _ {s : List ℕ} {at : ℕ} {ws : List Tlv} (w : Walked s at ws) where
  -- at the end there are no others
  pub walked_end : head_at s at ≡ End → tlvs (drop 4 s) ≡ some ws
  walked_end e = w.run ∙ rw (run_end s at e) (ap some (append-nil ws))

  -- at a bad header there are none
  pub walked_bad : head_at s at ≡ Bad → tlvs (drop 4 s) ≡ none
  walked_bad e = w.run ∙ rw (run_bad s at e)

  -- at a child
  module _ {tag start end : ℕ} (i : IsTlv s at tag start end) where
    abbrev child : Tlv
    child = tlv tag (between s start end)

    pub walked_more : Walked s end (ws ++ (child ∷ []))
    walked_more = record { run = w.run ∙ rw (run-tlv i) (map_more ws child (tlvs (drop end s))) }

    -- a test fails of all children where it fails whatever follows
    pub walked-fails : (p : List Tlv → Bool) → ((ts : List Tlv) → p ((ws ++ (child ∷ [])) ++ ts) ≡ false) → is_run p (tlvs (drop 4 s)) ≡ false
    walked-fails p h = rw walked_more.run (go (tlvs (drop end s)))
      where
        go : (o : Option (List Tlv)) → is_run p (Option.map (λ ts. (ws ++ (child ∷ [])) ++ ts) o) ≡ false
        go none = refl
        go (some ts) = h ts

-- ---- a test of each, and the values of a field, where there is one more

module _ (p : Tlv → Bool) (c : Tlv) where
  pub all-fails : (ws ts : List Tlv) → p c ≡ false → all p ((ws ++ (c ∷ [])) ++ ts) ≡ false
  all-fails [] ts e = rw e
  all-fails (x ∷ ws) ts e = rw (all-fails ws ts e, and-false)

module _ (f : Field) where
  values-append : (ws ts : List Tlv) → values_of f (ws ++ ts) ≡ values_of f ws ++ values_of f ts
  values-append ws ts =
      ap (map (λ (c : Tlv). c.value)) (select-append (λ c. eqb c.tag (tag_of f)) ws ts)
      ∙ map-append (λ (c : Tlv). c.value) (select (λ c. eqb c.tag (tag_of f)) ws) (select (λ c. eqb c.tag (tag_of f)) ts)

  -- and none of them goes again
  pub values_stay : (ws ts : List Tlv) → length (values_of f ws) ≤ length (values_of f (ws ++ ts))
  values_stay ws ts = rw (values-append ws ts) (simp length-append (omega arith))

  module _ (ws : List Tlv) (tag : ℕ) (v : List ℕ) where
    pub values-own : tag ≡ tag_of f → values_of f (ws ++ (tlv tag v ∷ [])) ≡ values_of f ws ++ (v ∷ [])
    values-own e = rw (values-append ws (tlv tag v ∷ []), eq-eqb tag (tag_of f) e)

    pub values_other : (tag ≡ tag_of f → ⊥) → values_of f (ws ++ (tlv tag v ∷ [])) ≡ values_of f ws
    values_other h = rw (values-append ws (tlv tag v ∷ []), ne_eqb tag (tag_of f) h) (append-nil (values_of f ws))
