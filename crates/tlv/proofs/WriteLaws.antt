-- Writes over a stretch: one after another, as stores, as a copy, and as TLVs.
-- Assumes nothing.
use mathlib.Core.Path.{◌≡◌, refl, sym, ap, ◌∙◌}
use mathlib.Core.List.{List, [], ◌∷◌, ◌++◌, append_assoc}
use Prim.Native.Nat.{ℕ, ◌+◌, ◌-◌, ◌≤◌, ◌<◌}
use native.Mathlib.Nat.{add-zero}
use native.Mathlib.Numerals.{add-one}
use native.Mathlib.Omega.{arith}
use lib.ListN.{length, get_or, take, drop, set, length-append, length-drop, take-append-drop}
use lib.Seq.{take-length, take-take, take-add, take-append-add, paste, paste-suc, take-paste, drop-paste, take_at, drop_at, length-take-le, drop-drop}
use borrow.Rule.Slice.PartMut.{put_mid, Post-is}
use Rattle.std.proofs.lemmas.List.{set_split}
use Rattle.model.specs.Tlv.{Tlv, tlv, header, bytes}
use Rattle.model.proofs.Tlvs.{bytes-append, bytes_one}
use Rattle.tlv.specs.Writing.{splice, Wrote}

-- ---- splice

length-splice : (at : ℕ) (xs d : List ℕ) → at + length xs ≤ length d → length (splice at xs d) ≡ length d
length-splice at xs d h = simp (length-append, length-drop) (omega (arith, length-take-le at d (omega arith)))

-- a write after a write is one write of both
splice-splice : (at : ℕ) (xs ys d : List ℕ) → at + (length xs + length ys) ≤ length d
    → splice (at + length xs) ys (splice at xs d) ≡ splice at (xs ++ ys) d
splice-splice at xs ys d h =
    let rest : List ℕ = drop (at + length xs) d in
    let q : length (take at d) ≡ at = length-take-le at d (omega arith) in
    let p : length (take at d ++ xs) ≡ at + length xs = simp length-append (omega arith) in
    let t : take (at + length xs) (splice at xs d) ≡ take at d ++ xs =
    rw (← append_assoc (take at d) xs rest) (take_at (take at d ++ xs) rest (at + length xs) p) in
    let u : drop (at + length xs) (splice at xs d) ≡ rest =
    rw (← append_assoc (take at d) xs rest) (drop_at (take at d ++ xs) rest (at + length xs) p) in
    let v : drop (at + length xs + length ys) (splice at xs d) ≡ drop (at + length xs + length ys) d =
    sym (drop-drop (length ys) (at + length xs) (splice at xs d)) ∙ ap (drop (length ys)) u ∙ drop-drop (length ys) (at + length xs) d in
    let w : at + length xs + length ys ≡ at + length (xs ++ ys) = simp length-append (omega arith) in
    rw (t, v, w) (simp append_assoc)

-- ---- one write after another

module _ {d d₁ d₂ xs ys : List ℕ} {at m n r₁ r₂ : ℕ} where
  pub then : Wrote d at xs m d₁ r₁ → Wrote d₁ r₁ ys n d₂ r₂ → Wrote d at (xs ++ ys) (m + n) d₂ r₂
  then p q =
      let s : at + length xs ≤ length d = omega (arith, p) in
      let l : length d₁ ≡ length d = ap length p.bytes ∙ length-splice at xs d s in
      let e : r₁ ≡ at + length xs = omega (arith, p) in
      record {
        size = simp length-append (omega (arith, p, q));
        room = omega (arith, p, q);
        next = omega (arith, p, q);
        bytes = q.bytes ∙ rw (e, p.bytes) (splice-splice at xs ys d (omega (arith, p, q)));
      }

module _ {d d' xs ys : List ℕ} {at m n r : ℕ} where
  -- the same write, with its bytes and their number put another way
  pub same : xs ≡ ys → m ≡ n → Wrote d at xs m d' r → Wrote d at ys n d' r
  same e k p = rw (← e, ← k) p

module _ {d d₁ d₂ : List ℕ} {at r₁ r₂ : ℕ} where
  -- a part of s, and the part after it
  pub then_part : (s : List ℕ) (i m n : ℕ) → Wrote d at (take m (drop i s)) m d₁ r₁ → Wrote d₁ r₁ (take n (drop (i + m) s)) n d₂ r₂
      → Wrote d at (take (m + n) (drop i s)) (m + n) d₂ r₂
  then_part s i m n p q = same (rw (take-add m n (drop i s), drop-drop m i s)) refl (then p q)

-- nothing written
pub wrote_none : (d : List ℕ) (at : ℕ) → at ≤ length d → Wrote d at [] 0 d at
wrote_none d at h =
    record { size = refl; room = omega arith; next = omega arith; bytes = rw add-zero (sym (take-append-drop at d)) }

-- what was written at the front, and what is left of the stretch
pub front : {d xs d' : List ℕ} {n r : ℕ} → Wrote d 0 xs n d' r → (r ≡ n) × (d' ≡ xs ++ drop n d)
front {d} {xs} {d'} {n} {r} p =
    let z : 0 + length xs ≡ n = omega (arith, p) in
    (omega (arith, p), p.bytes ∙ rw z)

-- at the front the number of bytes and the place after them are one
pub from_front : {d xs d' : List ℕ} {n r : ℕ} → Wrote d 0 xs n d' r → Wrote d 0 xs r d' r
from_front p = same refl (sym (front p).0) p

-- ---- TLVs

module _ {d d₁ d₂ : List ℕ} {at m n r₁ r₂ : ℕ} (ts us : List Tlv) where
  -- a run after a run
  pub then_run : Wrote d at (bytes ts) m d₁ r₁ → Wrote d₁ r₁ (bytes us) n d₂ r₂ → Wrote d at (bytes (ts ++ us)) (m + n) d₂ r₂
  then_run p q = same (sym (bytes-append ts us)) refl (then p q)

module _ {d d₁ d₂ v : List ℕ} {at n r₁ r₂ : ℕ} (tag : ℕ) where
  -- a header, and a value of the length that it says
  pub then_value : Wrote d at (header tag n) 4 d₁ r₁ → Wrote d₁ r₁ v n d₂ r₂ → Wrote d at (bytes (tlv tag v ∷ [])) (4 + n) d₂ r₂
  then_value p q = same (sym (bytes_one tag n v q.size)) refl (then p q)

-- a byte
pub wrote_byte : (d : List ℕ) (at b : ℕ) → at < length d → Wrote d at (b ∷ []) 1 (set d at b) (at + 1)
wrote_byte d at b h = record { size = refl; room = omega arith; next = refl; bytes = rw add-one (set_split d at b h) }

-- a copy of xs into a part of a stretch
pub wrote_part : (d : List ℕ) (at n : ℕ) {m xs : List ℕ} → at + n ≤ length d → length xs ≡ n → m ≡ xs
    → Wrote d at xs n (put_mid at (at + n - at) d m) (at + n)
wrote_part d at n h k e =
    let w : at ≤ at + n = omega arith in
    record { size = k; room = h; next = refl; bytes = rw (e, Post-is at (at + n) d w, k) }

-- ---- a copy

-- a turn
pub paste_step : (d s : List ℕ) (at i : ℕ) {x : List ℕ} → at + i < length d → i < length s → x ≡ paste d at s i
    → set x (at + i) (get_or s i 0) ≡ paste d at s (i + 1)
paste_step d s at i h k e = rw (e, add-one) (paste-suc d at s i 0 h k)

-- a write of w bytes of s at their own place, over a copy that has come as far as somewhere in them
pub paste_over : (d s : List ℕ) (at i j w : ℕ) {x d' : List ℕ} {a r : ℕ} → a ≡ at + j → j ≤ i → i ≤ j + w → j + w ≤ length s
    → at + (j + w) ≤ length d → x ≡ paste d at s i → Wrote x a (take w (drop j s)) w d' r → d' ≡ paste d at s (j + w)
paste_over d s at i j w {x} g h k l m e p =
    let n : at ≤ length d = omega arith in
    let q : length (take at d) ≡ at = length-take-le at d n in
    let t : take (at + i) x ≡ take at d ++ take i s = rw e (take-paste d at s i n (omega arith)) in
    let u : take (at + j) (take at d ++ take i s) ≡ take at d ++ take j (take i s) =
    rw q at (take-append-add (take at d) (take i s) j) in
    let a : take (at + j) x ≡ take at d ++ take j s =
    sym (take-take (at + j) (at + i) x (omega arith)) ∙ rw (t, u, take-take j i s h) in
    let o : at + j + length (take w (drop j s)) ≡ at + i + (j + w - i) = omega (arith, p.size) in
    let v : drop (at + i) x ≡ drop (at + i) d = rw e (drop-paste d at s i n (omega arith)) in
    let f : at + i + (j + w - i) ≡ at + (j + w) = omega arith in
    let b : drop (at + j + length (take w (drop j s))) x ≡ drop (at + (j + w)) d =
    rw (o, ← drop-drop (j + w - i) (at + i) x, v, drop-drop (j + w - i) (at + i) d, f) in
    p.bytes ∙ rw (g, a, b, take-add j w s) (simp append_assoc)

-- all of it
pub wrote_paste : (d s : List ℕ) (at i : ℕ) {d' : List ℕ} {r : ℕ} → at + length s ≤ length d → r ≡ at + i → i ≡ length s
    → d' ≡ paste d at s i → Wrote d at s (length s) d' r
wrote_paste d s at i h e k p =
    record { size = refl; room = h; next = omega arith; bytes = p ∙ rw k (simp (take-length, append_assoc)) }
