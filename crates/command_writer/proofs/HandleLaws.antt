-- Key handles that run together: the lengths beside them are all 32 and add up, and the handles stand one after another.
-- Assumes nothing.
use mathlib.Core.Path.{◌≡◌, refl, ap, ◌∙◌}
use mathlib.Core.Bool.{Bool, true, ◌&&◌}
use mathlib.Core.List.{List, [], ◌∷◌, ◌++◌, map}
use mathlib.Core.Option.{none, some}
use Prim.Native.Nat.{ℕ, zero, suc, ◌+◌, ◌*◌, ◌-◌, ◌≤◌, ◌<◌}
use native.Mathlib.Omega.{arith}
use lib.ListN.{length, take, drop, length-append, length-map, length-drop}
use lib.Seq.{length-take-le, drop-drop}
use lib.Dec.{leb, eqb}
use borrow.Author.Tests.{leb-true, le-leb, eqb-true, eq-eqb}
use Rattle.std.specs.List.{list_all}
use Rattle.model.specs.Lists.{all}
use Rattle.model.specs.Tlv.{tlv, bytes, max_command, key_handle, fits, times_allowed, up_to}
use Rattle.model.specs.Writer.{Values, pieces, tlvs_for, values_ok}
use Rattle.model.proofs.Basics.{split, clash, and_left, and_right, both}
use Rattle.model.proofs.Tlvs.{length-bytes}
use Rattle.model.proofs.WriterForms.{together, pieces_are}
use Rattle.model.proofs.LayoutLaws.{fits-most, fits-least, size_fits}
use Rattle.command_writer.specs.Lengths.{takes, too_long}
use Rattle.command_writer.specs.Parts.{handle_tlvs}
use Rattle.command_writer.proofs.LengthLaws.{takes-ok, takes-not, obeys}

-- each length is a key handle's
abbrev pub whole : List ℕ → Bool
whole ns = all (λ n. eqb n 32) ns

-- the same asked by the library's walk
pub whole-all : (ns : List ℕ) → list_all (λ n. eqb n 32) ns ≡ whole ns
whole-all [] = refl
whole-all (n ∷ ns) = ap (λ b. eqb n 32 && b) (whole-all ns)

-- ---- such lengths, and a stretch that is as long as they say

pub record Handles (ns s : List ℕ) : Type 0 where
  pub values : List (List ℕ)
  pub are : pieces ns s ≡ some values
  pub many : length values ≡ length ns
  pub fit : all (fits key_handle) values ≡ true
  pub tlvs : map (tlv 0x2801) values ≡ handle_tlvs (length ns) s

one_more : (n : ℕ) (ns s : List ℕ) (vs : List (List ℕ)) → n ≡ 32 → 32 ≤ length s → pieces ns (drop 32 s) ≡ some vs
    → pieces (n ∷ ns) s ≡ some (take 32 s ∷ vs)
unfolding pieces
one_more n ns s vs e h p = rw (e, le-leb 32 (length s) h, p)

pub handles : (ns s : List ℕ) → whole ns ≡ true → length s ≡ 32 * length ns → Handles ns s
unfolding pieces handle_tlvs
handles [] [] e l = record { values = []; are = refl; many = refl; fit = refl; tlvs = refl }
handles [] (x ∷ s) e l = absurd (omega arith)
handles (n ∷ ns) s e l =
    let h : n ≡ 32 = eqb-true n 32 (and_left (eqb n 32) _ e) in
    let z : 32 ≤ length s = omega arith in
    let t : length (take 32 s) ≡ 32 = length-take-le 32 s z in
    let r = handles ns (drop 32 s) (and_right (eqb n 32) _ e) (omega (arith, length-drop 32 s)) in
    record {
      values = take 32 s ∷ r.values;
      are = one_more n ns s r.values h z r.are;
      many = omega (arith, r.many);
      fit = both (size_fits key_handle (take 32 s) (omega (arith, t)) (omega (arith, t)) refl) r.fit;
      tlvs = ap (λ ts. tlv 0x2801 (take 32 s) ∷ ts) r.tlvs;
    }

-- ---- values that obey the rule come from such lengths alone

each-whole : (vs : List (List ℕ)) → all (fits key_handle) vs ≡ true → (whole (map length vs) ≡ true) × (length (together vs) ≡ 32 * length vs)
each-whole [] e = (refl, refl)
each-whole (v ∷ vs) e =
    let f : fits key_handle v ≡ true = and_left (fits key_handle v) _ e in
    let n : length v ≡ 32 = omega (arith, fits-least key_handle v f, fits-most key_handle v f) in
    let (w, l) = each-whole vs (and_right (fits key_handle v) _ e) in
    (both (eq-eqb (length v) 32 n) w, omega (arith, n, l, length-append v (together vs)))

module _ (ns s : List ℕ) where
  obeyed : values_ok (up_to 8 key_handle) (pieces ns s) ≡ true → (length ns ≤ 8) × (whole ns ≡ true) × (length s ≡ 32 * length ns)
  obeyed = go (pieces ns s) refl
    where
      go : (o : Values) → pieces ns s ≡ o → values_ok (up_to 8 key_handle) o ≡ true
          → (length ns ≤ 8) × (whole ns ≡ true) × (length s ≡ 32 * length ns)
      go none p e = clash e refl
      go (some vs) p e =
          let n : Bool = times_allowed (up_to 8 key_handle) (length vs) in
          let (m, t) = pieces_are ns s vs p in
          let (w, l) = each-whole vs (and_right n _ e) in
          let z : length ns ≡ length vs = rw (← m) (length-map vs length) in
          (omega (arith, z, leb-true (length vs) 8 (and_right (leb 0 (length vs)) _ (and_left n _ e))), rw m at w, omega (arith, z, l, ap length t))

  -- one of the three tests fails
  module _ (h : (length ns ≤ 8) × (whole ns ≡ true) × (length s ≡ 32 * length ns) → ⊥) where
    pub handles-not : takes (up_to 8 key_handle) (pieces ns s) ≡ too_long
    handles-not = takes-not _ _ (split (values_ok (up_to 8 key_handle) (pieces ns s)) (λ e. absurd (h (obeyed e))) (λ e. e))

  -- handles that do not take too much pass all three
  pub handles-size : takes (up_to 8 key_handle) (pieces ns s) ≤ max_command → (length ns ≤ 8) × (whole ns ≡ true) × (length s ≡ 32 * length ns)
  handles-size h = obeyed (obeys _ _ h)

-- so many key handles, as bytes
handles-length : (n : ℕ) (s : List ℕ) → length s ≡ 32 * n → length (bytes (handle_tlvs n s)) ≡ 36 * n
unfolding handle_tlvs bytes
handles-length zero s e = refl
handles-length (suc n) s e =
    let t : length (take 32 s) ≡ 32 = length-take-le 32 s (omega arith) in
    length-bytes (tlv 0x2801 (take 32 s)) (handle_tlvs n (drop 32 s))
    ∙ omega (arith, t, handles-length n (drop 32 s) (omega (arith, length-drop 32 s)))

module _ (ns s : List ℕ) (w : whole ns ≡ true) (l : length s ≡ 32 * length ns) where
  pub handles-children : tlvs_for (up_to 8 key_handle) (pieces ns s) ≡ handle_tlvs (length ns) s
  handles-children = let h = handles ns s w l in rw h.are h.tlvs

  pub handles-take : length ns ≤ 8 → takes (up_to 8 key_handle) (pieces ns s) ≡ 36 * length ns
  handles-take m =
      let h = handles ns s w l in
      let ok : values_ok (up_to 8 key_handle) (pieces ns s) ≡ true =
      rw h.are (both (both (le-leb 0 (length h.values) (omega arith)) (le-leb (length h.values) 8 (omega (arith, h.many)))) h.fit) in
      takes-ok _ _ ok ∙ rw handles-children (handles-length (length ns) s l)

-- ---- one handle after another

pub handle_more : (n : ℕ) (s : List ℕ) → handle_tlvs (n + 1) s ≡ handle_tlvs n s ++ (tlv 0x2801 (take 32 (drop (32 * n) s)) ∷ [])
unfolding handle_tlvs
handle_more zero s = refl
handle_more (suc n) s =
    let ih = handle_more n (drop 32 s) in
    let e : 32 * suc n ≡ 32 + 32 * n = omega arith in
    let z : suc n + 1 ≡ suc (n + 1) = omega arith in
    rw (e, z, ← drop-drop (32 * n) 32 s) (ap (λ ts. tlv 0x2801 (take 32 s) ∷ ts) ih)

-- the part from 32 n up to 32 bytes on
module _ (n k : ℕ) (s : List ℕ) (h : n < k) (l : length s ≡ 32 * k) where
  pub handle_part : take (32 * n + 32 - 32 * n) (drop (32 * n) s) ≡ take 32 (drop (32 * n) s)
  handle_part = let e : 32 * n + 32 - 32 * n ≡ 32 = omega arith in rw e

  pub handle_size : length (take (32 * n + 32 - 32 * n) (drop (32 * n) s)) ≡ 32
  handle_size = rw handle_part (length-take-le 32 (drop (32 * n) s) (omega (arith, length-drop (32 * n) s)))
