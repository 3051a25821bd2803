-- One character of RFC 3629: what section 3's table gives for a scalar value is an alternative of section 4's grammar, and what an alternative
-- takes is what the table gives for one scalar value.
-- Assumes nothing.
use mathlib.Core.Path.{◌≡◌, refl, ◌∙◌}
use mathlib.Core.Bool.{Bool, true, false, cond, ◌&&◌}
use mathlib.Core.List.{List, [], ◌∷◌, ◌++◌}
use mathlib.Core.Option.{Option, none, some, map}
use Prim.Native.Nat.{ℕ, zero, suc, ◌+◌, ◌-◌, ◌*◌, ◌/◌, ◌%◌, ◌≤◌, ◌<◌}
use native.Mathlib.Omega.{arith}
use lib.ListN.{get_or, drop}
use lib.Dec.{leb, ltb}
use borrow.Author.Tests.{leb-true, leb-false, ltb-true, le-leb, lt-leb, not-true}
use Rattle.model.specs.Lists.{all, select, first}
use Rattle.model.specs.Utf8.{Range, ◌to◌, within, tail, utf8_char, begins, follow, scalar, octets}
use Rattle.model.proofs.Basics.{split, impossible, and_left, and_right, both, up-to}

-- ---- the table of alternatives

pub in_range : (r : Range) (b : ℕ) → r.low ≤ b → b ≤ r.high → within r b ≡ true
in_range r b l h = both (le-leb _ _ l) (le-leb _ _ h)

pub range_low : (r : Range) (b : ℕ) → within r b ≡ true → r.low ≤ b
range_low r b e = leb-true _ _ (and_left (leb r.low b) _ e)

pub range_high : (r : Range) (b : ℕ) → within r b ≡ true → b ≤ r.high
range_high r b e = leb-true _ _ (and_right (leb r.low b) _ e)

-- what follows a byte, by any table
abbrev follow_in : List (List Range) → ℕ → Option (List Range)
follow_in ls a = map (drop 1) (first (select (begins a) ls))

-- something of each alternative: of every first byte, and of the bytes that follow it
abbrev pub Each : (ℕ → List Range → Type 0) → List (List Range) → Type 0
Each P [] = Unit {0}
Each P ([] ∷ ls) = Each P ls
Each P ((r ∷ rs) ∷ ls) = ((a : ℕ) → r.low ≤ a → a ≤ r.high → P a rs) × Each P ls

abbrev pub If : (List Range → Type 0) → Option (List Range) → Type 0
If P none = Unit {0}
If P (some rs) = P rs

by_table : (P : ℕ → List Range → Type 0) (ls : List (List Range)) → Each P ls → (a : ℕ) → If (P a) (follow_in ls a)
by_table P [] k a = tt
by_table P ([] ∷ ls) k a = by_table P ls k a
by_table P ((r ∷ rs) ∷ ls) k a =
    split (within r a) (λ e. rw e (k.0 a (range_low r a e) (range_high r a e))) (λ e. rw e (by_table P ls k.1 a))

-- then it holds of every byte that begins an alternative
pub by_alternative : (P : ℕ → List Range → Type 0) → Each P utf8_char → (a : ℕ) → If (P a) (follow a)
unfolding follow
by_alternative P k a = by_table P utf8_char k a

-- and what a test of the two says of each, if it passes at all of them
abbrev tested : (Range → List Range → Bool) → List Range → Bool
tested t [] = true
tested t (r ∷ rs) = t r rs

each_tested : (t : Range → List Range → Bool) (P : ℕ → List Range → Type 0)
    → ((r : Range) (rs : List Range) → t r rs ≡ true → (a : ℕ) → r.low ≤ a → a ≤ r.high → P a rs)
    → (ls : List (List Range)) → all (tested t) ls ≡ true → Each P ls
each_tested t P f [] e = tt
each_tested t P f ([] ∷ ls) e = each_tested t P f ls e
each_tested t P f ((r ∷ rs) ∷ ls) e = (f r rs (and_left (t r rs) _ e), each_tested t P f ls (and_right (t r rs) _ e))

pub by_test : (t : Range → List Range → Bool) (P : ℕ → List Range → Type 0) → all (tested t) utf8_char ≡ true
    → ((r : Range) (rs : List Range) → t r rs ≡ true → (a : ℕ) → r.low ≤ a → a ≤ r.high → P a rs) → (a : ℕ) → If (P a) (follow a)
by_test t P e f = by_alternative P (each_tested t P f utf8_char e)

-- the alternatives go up by their first bytes
abbrev past : ℕ → List Range → Bool
past h [] = true
past h (r ∷ rs) = ltb h r.low

abbrev ascending : List (List Range) → Bool
ascending [] = true
ascending ([] ∷ ls) = ascending ls
ascending ((r ∷ rs) ∷ ls) = all (past r.high) ls && ascending ls

past_at : (h i : ℕ) (ls : List (List Range)) (r : Range) (rs : List Range) → all (past h) ls ≡ true → get_or ls i [] ≡ r ∷ rs → h < r.low
past_at h zero [] r rs e f = impossible cc
past_at h (suc i) [] r rs e f = impossible cc
past_at h zero (l ∷ ls) r rs e f = ltb-true _ _ (rw f at (and_left (past h l) _ e))
past_at h (suc i) (l ∷ ls) r rs e f = past_at h i ls r rs (and_right (past h l) _ e) f

out_range : (r : Range) (b : ℕ) → r.high < b → within r b ≡ false
out_range r b h = split (within r b) (λ e. absurd (omega (arith, range_high r b e))) (λ e. e)

find : (ls : List (List Range)) (i a : ℕ) (r : Range) (rs : List Range) → ascending ls ≡ true → get_or ls i [] ≡ r ∷ rs
    → r.low ≤ a → a ≤ r.high → follow_in ls a ≡ some rs
find [] zero a r rs e f l h = impossible cc
find [] (suc i) a r rs e f l h = impossible cc
find ([] ∷ ls) zero a r rs e f l h = impossible cc
find ([] ∷ ls) (suc i) a r rs e f l h = find ls i a r rs e f l h
find ((q ∷ qs) ∷ ls) zero a r rs e f l h =
    let p : q ≡ r = cc in
    let t : qs ≡ rs = cc in
    rw (p, t, in_range r a l h)
find ((q ∷ qs) ∷ ls) (suc i) a r rs e f l h =
    let p : all (past q.high) ls ≡ true = and_left (all (past q.high) ls) _ e in
    let u : q.high < r.low = past_at q.high i ls r rs p f in
    rw (out_range q a (omega arith)) (find ls i a r rs (and_right (all (past q.high) ls) _ e) f l h)

-- so that the alternative at a place of the table is what its first bytes begin
pub alternative : (i a : ℕ) {r : Range} {rs : List Range} → get_or utf8_char i [] ≡ r ∷ rs → r.low ≤ a → a ≤ r.high → follow a ≡ some rs
unfolding follow
alternative i a {r} {rs} f l h = find utf8_char i a r rs refl f l h

-- ---- a scalar value

-- these bytes lie in these ranges, each in its own
abbrev pub Fit : List Range → List ℕ → Type 0
Fit [] [] = Unit {0}
Fit [] (b ∷ bs) = ⊥
Fit (r ∷ rs) [] = ⊥
Fit (r ∷ rs) (b ∷ bs) = (r.low ≤ b) × (b ≤ r.high) × Fit rs bs

-- the bits marked x in the table: of a first byte, then six of each further one
unfoldable pub bits : ℕ → ℕ
bits a = cond (leb a 0x7F) a (cond (leb a 0xDF) (a - 0xC0) (cond (leb a 0xEF) (a - 0xE0) (a - 0xF0)))

abbrev pub number : ℕ → List ℕ → ℕ
number v [] = v
number v (b ∷ bs) = number (64 * v + (b - 0x80)) bs

module _ (v : ℕ) where
  scalar-low : v < 0xD800 → scalar v ≡ true
  unfolding scalar
  scalar-low h = rw (le-leb v 0x10FFFF (omega arith), lt-leb 0xD800 v h)

  scalar-high : 0xE000 ≤ v → v ≤ 0x10FFFF → scalar v ≡ true
  unfolding scalar
  scalar-high l h = rw (le-leb v 0x10FFFF h, le-leb 0xD800 v (omega arith), lt-leb v 0xDFFF (omega arith))

  octets-one : v ≤ 0x7F → octets v ≡ v ∷ []
  unfolding octets
  octets-one h = rw (le-leb v 0x7F h)

  octets_two : 0x80 ≤ v → v ≤ 0x7FF → octets v ≡ (0xC0 + v / 64) ∷ (0x80 + v % 64) ∷ []
  unfolding octets
  octets_two l h = rw (lt-leb v 0x7F (omega arith), le-leb v 0x7FF h)

  octets_three : 0x800 ≤ v → v ≤ 0xFFFF → octets v ≡ (0xE0 + v / 4096) ∷ (0x80 + v / 64 % 64) ∷ (0x80 + v % 64) ∷ []
  unfolding octets
  octets_three l h = rw (lt-leb v 0x7F (omega arith), lt-leb v 0x7FF (omega arith), le-leb v 0xFFFF h)

  octets_four : 0x10000 ≤ v → octets v ≡ (0xF0 + v / 262144) ∷ (0x80 + v / 4096 % 64) ∷ (0x80 + v / 64 % 64) ∷ (0x80 + v % 64) ∷ []
  unfolding octets
  octets_four l = rw (lt-leb v 0x7F (omega arith), lt-leb v 0x7FF (omega arith), lt-leb v 0xFFFF (omega arith))

module _ (a : ℕ) where
  bits_one : a ≤ 0x7F → bits a ≡ a
  unfolding bits
  bits_one h = rw (le-leb a 0x7F h)

  bits_two : 0xC0 ≤ a → a ≤ 0xDF → bits a ≡ a - 0xC0
  unfolding bits
  bits_two l h = rw (lt-leb a 0x7F (omega arith), le-leb a 0xDF h)

  bits_three : 0xE0 ≤ a → a ≤ 0xEF → bits a ≡ a - 0xE0
  unfolding bits
  bits_three l h = rw (lt-leb a 0x7F (omega arith), lt-leb a 0xDF (omega arith), le-leb a 0xEF h)

  bits_four : 0xF0 ≤ a → bits a ≡ a - 0xF0
  unfolding bits
  bits_four l = rw (lt-leb a 0x7F (omega arith), lt-leb a 0xDF (omega arith), lt-leb a 0xEF (omega arith))

-- its octets are a first byte and bytes that may follow it, and these spell it
pub record Char (v : ℕ) : Type 0 where
  pub lead : ℕ
  pub rest : List ℕ
  pub ranges : List Range
  pub is : octets v ≡ lead ∷ rest
  pub line : follow lead ≡ some ranges
  pub fits : Fit ranges rest
  pub value : number (bits lead) rest ≡ v

-- the bytes of two and three and four, by where their first byte is in the table
module _ (v i : ℕ) {q : Range} where
  two : get_or utf8_char i [] ≡ q ∷ tail ∷ [] → 0x80 ≤ v → v ≤ 0x7FF → q.low ≤ 0xC0 + v / 64 → 0xC0 + v / 64 ≤ q.high → Char v
  two f l h m n =
      record {
        lead = 0xC0 + v / 64;
        rest = (0x80 + v % 64) ∷ [];
        ranges = tail ∷ [];
        is = octets_two v l h;
        line = alternative i (0xC0 + v / 64) f m n;
        fits = omega arith;
        value = rw (bits_two (0xC0 + v / 64) (omega arith) (omega arith)) (omega arith);
      }

  module _ {r : Range} where
    three : get_or utf8_char i [] ≡ q ∷ r ∷ tail ∷ [] → 0x800 ≤ v → v ≤ 0xFFFF → q.low ≤ 0xE0 + v / 4096 → 0xE0 + v / 4096 ≤ q.high
        → r.low ≤ 0x80 + v / 64 % 64 → 0x80 + v / 64 % 64 ≤ r.high → Char v
    three f l h m n s t =
        record {
          lead = 0xE0 + v / 4096;
          rest = (0x80 + v / 64 % 64) ∷ (0x80 + v % 64) ∷ [];
          ranges = r ∷ tail ∷ [];
          is = octets_three v l h;
          line = alternative i (0xE0 + v / 4096) f m n;
          fits = (s, t, omega arith);
          value = rw (bits_three (0xE0 + v / 4096) (omega arith) (omega arith)) (omega arith);
        }

    four : get_or utf8_char i [] ≡ q ∷ r ∷ tail ∷ tail ∷ [] → 0x10000 ≤ v → v ≤ 0x10FFFF → q.low ≤ 0xF0 + v / 262144 → 0xF0 + v / 262144 ≤ q.high
        → r.low ≤ 0x80 + v / 4096 % 64 → 0x80 + v / 4096 % 64 ≤ r.high → Char v
    four f l h m n s t =
        record {
          lead = 0xF0 + v / 262144;
          rest = (0x80 + v / 4096 % 64) ∷ (0x80 + v / 64 % 64) ∷ (0x80 + v % 64) ∷ [];
          ranges = r ∷ tail ∷ tail ∷ [];
          is = octets_four v l;
          line = alternative i (0xF0 + v / 262144) f m n;
          fits = (s, t, omega arith);
          value =
              let e : v / 4096 ≡ v / 64 / 64 = omega arith in
              let g : v / 262144 ≡ v / 4096 / 64 = omega arith in
              rw (bits_four (0xF0 + v / 262144) (omega arith)) (omega arith);
        }

-- the value's range gives its place in the table
pub char : (v : ℕ) → scalar v ≡ true → Char v
unfolding scalar
char v e =
    let top : v ≤ 0x10FFFF = leb-true _ _ (and_left (leb v 0x10FFFF) _ e) in
    let out : (leb 0xD800 v && leb v 0xDFFF) ≡ false = not-true _ (and_right (leb v 0x10FFFF) _ e) in
    up-to v 0x7F (λ h. record {
      lead = v;
      rest = [];
      ranges = [];
      is = octets-one v h;
      line = alternative 0 v refl (omega arith) h;
      fits = tt;
      value = bits_one v h;
    }) (λ l1.
    up-to v 0x7FF (λ h. two v 1 refl l1 h (omega arith) (omega arith)) (λ l2.
    up-to v 0xFFF (λ h. three v 2 refl l2 (omega arith) (omega arith) (omega arith) (omega arith) (omega arith)) (λ l3.
    up-to v 0xCFFF (λ h. three v 3 refl l2 (omega arith) (omega arith) (omega arith) (omega arith) (omega arith)) (λ l4.
    up-to v 0xD7FF (λ h. three v 4 refl l2 (omega arith) (omega arith) (omega arith) (omega arith) (omega arith)) (λ l5.
    let l6 : 0xDFFF < v = leb-false _ _ (rw (le-leb 0xD800 v l5) at out) in
    up-to v 0xFFFF (λ h. three v 5 refl l2 h (omega arith) (omega arith) (omega arith) (omega arith)) (λ l7.
    up-to v 0x3FFFF (λ h. four v 6 refl l7 top (omega arith) (omega arith) (omega arith) (omega arith)) (λ l8.
    up-to v 0xFFFFF (λ h. four v 7 refl l7 top (omega arith) (omega arith) (omega arith) (omega arith)) (λ l9.
    four v 8 refl l7 top (omega arith) (omega arith) (omega arith) (omega arith)))))))))

-- ---- an alternative

-- whatever bytes complete a character of which p has been read, with v for its bits, it is what the table gives for a scalar value
abbrev pub Completes : ℕ → List Range → List ℕ → Type 0
Completes v rs p = (bs : List ℕ) → Fit rs bs → (scalar (number v bs) ≡ true) × (octets (number v bs) ≡ p ++ bs)

-- six bits put behind others, and taken off again
module _ (q r : ℕ) (h : r < 64) where
  high : (64 * q + r) / 64 ≡ q
  high = omega arith

  low : (64 * q + r) % 64 ≡ r
  low = omega arith

twice : (v : ℕ) → v / 4096 ≡ v / 64 / 64
twice v = omega arith

thrice : (v : ℕ) → v / 262144 ≡ v / 64 / 64 / 64
thrice v = omega arith

back : (x y : ℕ) → y ≤ x → y + (x - y) ≡ x
back x y h = omega arith

-- what the table gives for a value by its bits
module _ (x y : ℕ) (h : y < 64) where
  of_two : 0x80 ≤ 64 * x + y → 64 * x + y ≤ 0x7FF → octets (64 * x + y) ≡ (0xC0 + x) ∷ (0x80 + y) ∷ []
  of_two l k = octets_two (64 * x + y) l k ∙ rw (high x y h, low x y h)

  module _ (z : ℕ) (i : z < 64) where
    of_three : 0x800 ≤ 64 * (64 * x + y) + z → 64 * (64 * x + y) + z ≤ 0xFFFF
        → octets (64 * (64 * x + y) + z) ≡ (0xE0 + x) ∷ (0x80 + y) ∷ (0x80 + z) ∷ []
    of_three l k =
        octets_three (64 * (64 * x + y) + z) l k
        ∙ rw (twice (64 * (64 * x + y) + z), high (64 * x + y) z i, low (64 * x + y) z i, high x y h, low x y h)

    of_four : (w : ℕ) → w < 64 → 0x10000 ≤ 64 * (64 * (64 * x + y) + z) + w
        → octets (64 * (64 * (64 * x + y) + z) + w) ≡ (0xF0 + x) ∷ (0x80 + y) ∷ (0x80 + z) ∷ (0x80 + w) ∷ []
    of_four w j l =
        octets_four (64 * (64 * (64 * x + y) + z) + w) l
        ∙ rw (
          thrice (64 * (64 * (64 * x + y) + z) + w),
          twice (64 * (64 * (64 * x + y) + z) + w),
          high (64 * (64 * x + y) + z) w j,
          low (64 * (64 * x + y) + z) w j,
          high (64 * x + y) z i,
          low (64 * x + y) z i,
          high x y h,
          low x y h,
        )

one_line : (a : ℕ) → 0x00 ≤ a → a ≤ 0x7F → Completes (bits a) [] (a ∷ [])
one_line a l h [] f = rw (bits_one a h) (scalar-low a (omega arith), octets-one a h)
one_line a l h (b ∷ bs) f = absurd f

two_line : (a : ℕ) → 0xC2 ≤ a → a ≤ 0xDF → Completes (bits a) (tail ∷ []) (a ∷ [])
two_line a l h [] f = absurd f
two_line a l h (b ∷ []) f =
    rw (bits_two a (omega arith) h) (
      scalar-low (64 * (a - 0xC0) + (b - 0x80)) (omega arith),
      of_two (a - 0xC0) (b - 0x80) (omega arith) (omega arith) (omega arith)
          ∙ rw (back a 0xC0 (omega arith), back b 0x80 f.0),
    )
two_line a l h (b ∷ c ∷ bs) f = absurd f.2

-- the alternatives of three bytes differ in the second byte's range, and need only that it gives a scalar value that no fewer bytes would hold
module _ (lo hi a : ℕ) (l : 0xE0 ≤ a) (h : a ≤ 0xEF) (lo-tail : 0x80 ≤ lo) (hi-tail : hi ≤ 0xBF) where
  three_line : ((v : ℕ) → 4096 * (a - 0xE0) + 64 * (lo - 0x80) ≤ v → v < 4096 * (a - 0xE0) + 64 * (hi - 0x80) + 64 → (0x800 ≤ v) × (scalar v ≡ true))
      → Completes (bits a) ((lo to hi) ∷ tail ∷ []) (a ∷ [])
  three_line k [] f = absurd f
  three_line k (b ∷ []) f = absurd f.2
  three_line k (b ∷ c ∷ []) f =
      let g = k (64 * (64 * (a - 0xE0) + (b - 0x80)) + (c - 0x80)) (omega arith) (omega arith) in
      rw (bits_three a l h) (
        g.1,
        of_three (a - 0xE0) (b - 0x80) (omega arith) (c - 0x80) (omega arith) g.0 (omega arith)
            ∙ rw (back a 0xE0 l, back b 0x80 (omega arith), back c 0x80 f.2.0),
      )
  three_line k (b ∷ c ∷ d ∷ bs) f = absurd f.2.2

-- those of four
module _ (lo hi a : ℕ) (l : 0xF0 ≤ a) (lo-tail : 0x80 ≤ lo) (hi-tail : hi ≤ 0xBF) where
  four_line : ((v : ℕ) → 262144 * (a - 0xF0) + 4096 * (lo - 0x80) ≤ v → v < 262144 * (a - 0xF0) + 4096 * (hi - 0x80) + 4096
      → (0x10000 ≤ v) × (scalar v ≡ true))
      → Completes (bits a) ((lo to hi) ∷ tail ∷ tail ∷ []) (a ∷ [])
  four_line k [] f = absurd f
  four_line k (b ∷ []) f = absurd f.2
  four_line k (b ∷ c ∷ []) f = absurd f.2.2
  four_line k (b ∷ c ∷ d ∷ []) f =
      let g = k (64 * (64 * (64 * (a - 0xF0) + (b - 0x80)) + (c - 0x80)) + (d - 0x80)) (omega arith) (omega arith) in
      rw (bits_four a l) (
        g.1,
        of_four (a - 0xF0) (b - 0x80) (omega arith) (c - 0x80) (omega arith) (d - 0x80) (omega arith) g.0
            ∙ rw (back a 0xF0 l, back b 0x80 (omega arith), back c 0x80 f.2.0, back d 0x80 f.2.2.0),
      )
  four_line k (b ∷ c ∷ d ∷ e ∷ bs) f = absurd f.2.2.2

-- of every first byte
pub completes : (a : ℕ) → If (λ rs. Completes (bits a) rs (a ∷ [])) (follow a)
completes =
    by_alternative (λ a rs. Completes (bits a) rs (a ∷ [])) (
      one_line,
      (
        two_line,
        (
          λ a l h. three_line 0xA0 0xBF a l (omega arith) (omega arith) (omega arith) (λ v p q. (omega arith, scalar-low v (omega arith))),
          (
            λ a l h. three_line 0x80 0xBF a (omega arith) (omega arith) (omega arith) (omega arith) (λ v p q. (omega arith, scalar-low v (omega arith))),
            (
              λ a l h. three_line 0x80 0x9F a (omega arith) (omega arith) (omega arith) (omega arith) (λ v p q. (omega arith, scalar-low v (omega arith))),
              (
                λ a l h. three_line 0x80 0xBF a (omega arith) h (omega arith) (omega arith) (λ v p q. (omega arith, scalar-high v (omega arith) (omega arith))),
                (
                  λ a l h. four_line 0x90 0xBF a l (omega arith) (omega arith) (λ v p q. (omega arith, scalar-high v (omega arith) (omega arith))),
                  (
                    λ a l h. four_line 0x80 0xBF a (omega arith) (omega arith) (omega arith) (λ v p q. (omega arith, scalar-high v (omega arith) (omega arith))),
                    (
                      λ a l h. four_line 0x80 0x8F a (omega arith) (omega arith) (omega arith) (λ v p q. (omega arith, scalar-high v (omega arith) (omega arith))),
                      tt,
                    ),
                  ),
                ),
              ),
            ),
          ),
        ),
      ),
    )
