-- The character at a place of a stretch, by its bytes there.
-- Assumes nothing.
use mathlib.Core.Path.{◌≡◌, refl, sym, ap, ◌∙◌}
use mathlib.Core.Bool.{true, false, ◌&&◌}
use mathlib.Core.List.{List, [], ◌∷◌}
use mathlib.Core.Option.{none, some}
use Prim.Native.Nat.{ℕ, ◌+◌, ◌≤◌, ◌<◌}
use native.Mathlib.Numerals.{add-one}
use native.Mathlib.Omega.{arith}
use lib.ListN.{length, get_or, drop, drop_of_length-le, get_or-eq_default}
use lib.Seq.{drop-cons}
use lib.Dec.{leb}
use borrow.Author.Tests.{leb-true, leb-false, le-leb, lt-leb, not-false}
use Rattle.model.specs.Utf8.{Range, within, tail, follow, utf8_after, utf8}
use Rattle.model.proofs.Basics.{split, clash, and_left, and_right, up-to}
use Rattle.model.proofs.Utf8Chars.{in_range, alternative}
use Rattle.utf8.specs.Places.{second, begins, barred, Reached}
use Rattle.utf8.proofs.PlaceLaws.{begins-high, common_low, second-tail, more, Leaves, First, no_first, first_of, first, second-barred, second-low, second-within, none_after}

module _ (s : List ℕ) where
  pub tail-past : (p : ℕ) → length s ≤ p → within tail (get_or s p 0) ≡ false
  tail-past p h = rw (get_or-eq_default s 0 {n = p} h)

  pub tail-inside : (p : ℕ) → within tail (get_or s p 0) ≡ true → p < length s
  tail-inside p e = split (leb (length s) p) (λ h. clash e (tail-past p (leb-true _ _ h))) (λ h. leb-false _ _ h)

  -- a byte that is to come, which no byte past the end is
  one_more : (r : Range) (rs : List Range) (p : ℕ) → 0x80 ≤ r.low
      → utf8_after (some (r ∷ rs)) (drop p s) ≡ (within r (get_or s p 0) && utf8_after (some rs) (drop (p + 1) s))
  unfolding utf8_after
  one_more r rs p l =
      split (leb (length s) p)
      (λ h. rw (drop_of_length-le s {i = p} (leb-true _ _ h), get_or-eq_default s 0 {n = p} (leb-true _ _ h), lt-leb r.low 0 (omega arith)))
      (λ h. rw (drop-cons s p 0 (leb-false _ _ h)) (ap (λ n. within r (get_or s p 0) && utf8_after (some rs) (drop n s)) (sym (add-one p))))

-- ---- how many bytes follow a first byte

module _ (d : ℕ) where
  -- as many as it leaves
  follow-is : (n : ℕ) → begins d ≡ true → ((m : ℕ) → m ≤ 3 → Leaves d m → m ≡ n) → follow d ≡ some (more n d)
  follow-is n b k = from (first d)
    where
      from : First d → follow d ≡ some (more n d)
      from (no_first e f) = clash b e
      from (first_of m h e f l) = rw (← k m h l) f

  follow_two : 0xC2 ≤ d → d < 0xE0 → follow d ≡ some (more 1 d)
  follow_two l h =
      follow-is 1 (begins-high d l (omega arith))
      (λ m k v. omega (arith, leb-true 1 m (v.one ∙ le-leb 0xC0 d (omega arith)), leb-false 2 m (v.two ∙ lt-leb 0xE0 d h)))

  follow_three : 0xE0 ≤ d → d < 0xF0 → follow d ≡ some (more 2 d)
  follow_three l h =
      follow-is 2 (begins-high d (omega arith) (omega arith))
      (λ m k v. omega (arith, leb-true 2 m (v.two ∙ le-leb 0xE0 d l), leb-false 3 m (v.three ∙ lt-leb 0xF0 d h)))

  follow_four : 0xF0 ≤ d → d ≤ 0xF4 → follow d ≡ some (more 3 d)
  follow_four l h =
      follow-is 3 (begins-high d (omega arith) h) (λ m k v. omega (arith, leb-true 3 m (v.three ∙ le-leb 0xF0 d l)))

  follow_none : begins d ≡ false → follow d ≡ none
  follow_none b = from (first d)
    where
      from : First d → follow d ≡ none
      from (no_first e f) = f
      from (first_of m h e f l) = clash e b

-- ---- the character at a place

module _ (s : List ℕ) (at : ℕ) (h : at < length s) where
  -- the byte there, and those after it
  abbrev lead : ℕ
  lead = get_or s at 0

  abbrev byte : ℕ → ℕ
  byte i = get_or s (at + i) 0

  begun : utf8 (drop at s) ≡ utf8_after (follow lead) (drop (at + 1) s)
  unfolding utf8_after
  begun = rw (add-one at, drop-cons s at 0 h)

  low : lead ≤ 0x7F → utf8 (drop at s) ≡ utf8 (drop (at + 1) s)
  low l = begun ∙ rw (alternative 0 lead refl (omega arith) l)

  wrong : begins lead ≡ false → utf8 (drop at s) ≡ false
  wrong b = begun ∙ rw (follow_none lead b) (none_after (drop (at + 1) s))

  two : 0xC2 ≤ lead → lead < 0xE0 → utf8 (drop at s) ≡ (within (second lead) (byte 1) && utf8 (drop (at + 2) s))
  two l k =
      let e : at + 1 + 1 ≡ at + 2 = omega arith in
      begun ∙ rw (follow_two lead l k) (rw e at (one_more s (second lead) [] (at + 1) (second-low lead)))

  three : 0xE0 ≤ lead → lead < 0xF0
      → utf8 (drop at s) ≡ (within (second lead) (byte 1) && (within tail (byte 2) && utf8 (drop (at + 3) s)))
  three l k =
      let e : at + 1 + 1 ≡ at + 2 = omega arith in
      let f : at + 2 + 1 ≡ at + 3 = omega arith in
      begun ∙ rw (follow_three lead l k, one_more s (second lead) (tail ∷ []) (at + 1) (second-low lead), e, one_more s tail [] (at + 2) (omega arith), f)

  four : 0xF0 ≤ lead → lead ≤ 0xF4
      → utf8 (drop at s) ≡ (within (second lead) (byte 1) && (within tail (byte 2) && (within tail (byte 3) && utf8 (drop (at + 4) s))))
  four l k =
      let e : at + 1 + 1 ≡ at + 2 = omega arith in
      let f : at + 2 + 1 ≡ at + 3 = omega arith in
      let g : at + 3 + 1 ≡ at + 4 = omega arith in
      begun
      ∙ rw (
        follow_four lead l k,
        one_more s (second lead) (tail ∷ tail ∷ []) (at + 1) (second-low lead),
        e,
        one_more s tail (tail ∷ []) (at + 2) (omega arith),
        f,
        one_more s tail [] (at + 3) (omega arith),
        g,
      )

  -- where one stands, its bytes are these
  record CharHere : Type 0 where
    pub least : 0xC2 ≤ lead
    pub most : lead ≤ 0xF4
    pub after_first : within (second lead) (byte 1) ≡ true
    pub third : 0xE0 ≤ lead → within tail (byte 2) ≡ true
    pub fourth : 0xF0 ≤ lead → within tail (byte 3) ≡ true

  char_here : 0x80 ≤ lead → utf8 (drop at s) ≡ true → CharHere
  char_here l e =
      up-to lead 0xC1 (λ k. clash e (wrong (rw (lt-leb lead 0x7F l, lt-leb 0xC2 lead (omega arith))))) (λ k1.
      up-to lead 0xDF (λ k. let f = rw (two k1 (omega arith)) at e in
      record { least = k1; most = omega arith; after_first = and_left (within (second lead) (byte 1)) _ f; third = λ u. absurd (omega arith); fourth = λ u. absurd (omega arith) }) (λ k2.
      up-to lead 0xEF (λ k. let f = rw (three k2 (omega arith)) at e in
      let g = and_right (within (second lead) (byte 1)) _ f in
      record { least = k1; most = omega arith; after_first = and_left (within (second lead) (byte 1)) _ f; third = λ u. and_left (within tail (byte 2)) _ g; fourth = λ u. absurd (omega arith) }) (λ k3.
      up-to lead 0xF4 (λ k. let f = rw (four k3 k) at e in
      let g = and_right (within (second lead) (byte 1)) _ f in
      record { least = k1; most = k; after_first = and_left (within (second lead) (byte 1)) _ f; third = λ u. and_left (within tail (byte 2)) _ g; fourth = λ u. and_left (within tail (byte 3)) _ (and_right (within tail (byte 2)) _ g) }) (λ k4.
      clash e (wrong (rw (lt-leb lead 0x7F l, le-leb 0xC2 lead k1, lt-leb lead 0xF4 k4)))))))

  -- so that what they are not says that none does
  none_here : 0x80 ≤ lead → (CharHere → ⊥) → Reached s at at
  none_here l f =
      record {
        onward = omega arith;
        inside = omega arith;
        same = refl;
        stops = λ e. split (utf8 (drop at s)) (λ u. absurd (f (char_here l u))) (λ u. u);
      }

  module _ (l : 0x80 ≤ lead) where
    pub none_first : lead < 0xC2 → Reached s at at
    none_first k = none_here l (λ c. omega (arith, c.least))

    pub none-past : 0xF4 < lead → Reached s at at
    none-past k = none_here l (λ c. omega (arith, c.most))

    pub none-second : within tail (byte 1) ≡ false → Reached s at at
    none-second e = none_here l (λ c. let t = second-within lead (byte 1) c.after_first in clash (in_range tail (byte 1) t.0 t.1) e)

    pub none-barred : within tail (byte 1) ≡ true → barred lead (byte 1) ≡ true → Reached s at at
    none-barred t e = none_here l (λ c. clash e (second-barred lead (byte 1) t ∙ rw c.after_first))

    pub none-third : 0xE0 ≤ lead → within tail (byte 2) ≡ false → Reached s at at
    none-third k e = none_here l (λ c. clash (c.third k) e)

    pub none-fourth : 0xF0 ≤ lead → within tail (byte 3) ≡ false → Reached s at at
    none-fourth k e = none_here l (λ c. clash (c.fourth k) e)

  -- and where they are, it goes on behind them
  reached : (n : ℕ) → 0 < n → at + n ≤ length s → utf8 (drop at s) ≡ utf8 (drop (at + n) s) → Reached s at (at + n)
  reached n p k e = record { onward = omega arith; inside = k; same = e; stops = λ f. absurd (omega arith) }

  pub reached_one : lead < 0x80 → Reached s at (at + 1)
  reached_one l = reached 1 (omega arith) (omega arith) (low (omega arith))

  module _ (t : within tail (byte 1) ≡ true) where
    pub reached-two : 0xC2 ≤ lead → lead < 0xE0 → Reached s at (at + 2)
    reached-two l k =
        reached 2 (omega arith) (omega (arith, tail-inside s (at + 1) t))
        (two l k ∙ rw (second_plain, t))
      where
        second_plain : second lead ≡ tail
        second_plain = second-tail lead (common_low lead k)

    module _ (b : barred lead (byte 1) ≡ false) (u : within tail (byte 2) ≡ true) where
      second-ok : within (second lead) (byte 1) ≡ true
      second-ok = not-false _ (sym (second-barred lead (byte 1) t) ∙ b)

      pub reached-three : 0xE0 ≤ lead → lead < 0xF0 → Reached s at (at + 3)
      reached-three l k = reached 3 (omega arith) (omega (arith, tail-inside s (at + 2) u)) (three l k ∙ rw (second-ok, u))

      pub reached-four : within tail (byte 3) ≡ true → 0xF0 ≤ lead → lead ≤ 0xF4 → Reached s at (at + 4)
      reached-four w l k = reached 4 (omega arith) (omega (arith, tail-inside s (at + 3) w)) (four l k ∙ rw (second-ok, u, w))

-- ---- over the whole

pub past_end : (s : List ℕ) (at : ℕ) → length s ≤ at → utf8 (drop at s) ≡ true
unfolding utf8_after
past_end s at h = rw (drop_of_length-le s {i = at} h)
