-- A stretch is well formed where each of its bytes, and three zeros behind them, may stand after the three before it.
-- Assumes nothing.
use mathlib.Core.Path.{◌≡◌, refl, sym, ◌∙◌}
use mathlib.Core.Bool.{Bool, true, false, not, ◌&&◌, ◌||◌, beq, or-false}
use mathlib.Core.List.{List, [], ◌∷◌}
use mathlib.Core.Option.{Option, none, some}
use Prim.Native.Nat.{ℕ, zero, suc, ◌≤◌, ◌<◌}
use native.Mathlib.Omega.{arith}
use lib.ListN.{replicate}
use lib.Dec.{leb, eqb}
use borrow.Author.Tests.{leb-true, leb-false, le-leb, lt-leb, eqb-true, ne_eqb, le-ltb}
use Rattle.model.specs.Utf8.{Range, ◌to◌, within, tail, follow, utf8_after, utf8}
use Rattle.model.proofs.Basics.{split, clash, and_left, and_right, or_left, or_right, either, all_below, below, up-to}
use Rattle.model.proofs.Utf8Chars.{in_range, range_low, range_high, If, by_test, alternative}
use Rattle.utf8.specs.Places.{owed, second, begins, never, barred, stands}

-- ---- the code's test of a byte

-- two tests that agree on every byte, which is computed
beq_same : (p q : Bool) → beq p q ≡ true → p ≡ q
beq_same true true e = refl
beq_same true false e = sym e
beq_same false true e = e
beq_same false false e = refl

agree : (p q : ℕ → Bool) → all_below 256 (λ d. beq (p d) (q d)) ≡ true → (d : ℕ) → d < 256 → p d ≡ q d
agree p q e d h = beq_same (p d) (q d) (below 256 (λ d. beq (p d) (q d)) e d h)

-- what the code asks where a byte is to come after c, and where none is
abbrev outside : ℕ → ℕ → Bool
outside c d = not (within tail d) || never d || barred c d

abbrev amiss : ℕ → ℕ → Bool
amiss c d = within tail d || never d || barred c d

module _ (c : ℕ) where
  -- c is none of the first bytes that ask more of the second
  pub record Common : Type 0 where
    pub not-e0 : eqb c 0xE0 ≡ false
    pub not-ed : eqb c 0xED ≡ false
    pub not-f0 : eqb c 0xF0 ≡ false
    pub not-f4 : eqb c 0xF4 ≡ false

  pub second-tail : Common → second c ≡ tail
  second-tail k = rw (k.not-e0, k.not-ed, k.not-f0, k.not-f4)

  common : (c ≡ 0xE0 → ⊥) → (c ≡ 0xED → ⊥) → (c ≡ 0xF0 → ⊥) → (c ≡ 0xF4 → ⊥) → Common
  common e f g h = record { not-e0 = ne_eqb c 0xE0 e; not-ed = ne_eqb c 0xED f; not-f0 = ne_eqb c 0xF0 g; not-f4 = ne_eqb c 0xF4 h }

  pub common_low : c < 0xE0 → Common
  common_low h = common (λ e. omega arith) (λ e. omega arith) (λ e. omega arith) (λ e. omega arith)

  module _ (d : ℕ) (h : d < 256) where
    to-come : outside c d ≡ not (within (second c) d)
    to-come =
        split (eqb c 0xE0) (λ e. rw (eqb-true c 0xE0 e) (at 0xE0 refl)) (λ e.
        split (eqb c 0xED) (λ f. rw (eqb-true c 0xED f) (at 0xED refl)) (λ f.
        split (eqb c 0xF0) (λ g. rw (eqb-true c 0xF0 g) (at 0xF0 refl)) (λ g.
        split (eqb c 0xF4) (λ i. rw (eqb-true c 0xF4 i) (at 0xF4 refl)) (λ i.
        rw (e, f, g, i) (at 0 refl)))))
      where
        at : (x : ℕ) → all_below 256 (λ d. beq (outside x d) (not (within (second x) d))) ≡ true → outside x d ≡ not (within (second x) d)
        at x e = agree (outside x) (λ d. not (within (second x) d)) e d h

    to-begin : c < 0xC0 → amiss c d ≡ not (begins d)
    to-begin l =
        let k = common_low (omega arith) in
        rw (k.not-e0, k.not-ed, k.not-f0, k.not-f4) (agree (amiss 0) (λ d. not (begins d)) refl d h)

-- of tails those that are not barred may stand there
pub second-barred : (c d : ℕ) → within tail d ≡ true → barred c d ≡ not (within (second c) d)
second-barred c d t =
    let l : d < 0xC0 = omega (arith, range_high tail d t) in
    let n : never d ≡ false = rw (ne_eqb d 0xC0 (λ e. omega arith), ne_eqb d 0xC1 (λ e. omega arith), le-ltb 0xF4 d (omega arith)) in
    rw (t, n) at (to-come c d (omega arith))

pub misplaced_is : (a b c d : ℕ) → d < 256 → (not (beq (owed a b c) (within tail d)) || never d || barred c d) ≡ not (stands a b c d)
unfolding stands
misplaced_is a b c d h =
    split (owed a b c)
    (λ e. rw (e, beq-true (within tail d)) (to-come c d h))
    (λ e. rw (e, beq-false (within tail d)) (to-begin c d h (leb-false _ _ (or_right (leb 0xF0 a || leb 0xE0 b) _ e))))
  where
    beq-true : (x : Bool) → beq true x ≡ x
    beq-true true = refl
    beq-true false = refl

    beq-false : (x : Bool) → not (beq false x) ≡ x
    beq-false true = refl
    beq-false false = refl

-- ---- what follows a first byte

abbrev pub more : ℕ → ℕ → List Range
more zero c = []
more (suc n) c = second c ∷ replicate n tail

-- d leaves so many bytes to come
pub record Leaves (d n : ℕ) : Type 0 where
  pub one : leb 1 n ≡ leb 0xC0 d
  pub two : leb 2 n ≡ leb 0xE0 d
  pub three : leb 3 n ≡ leb 0xF0 d

-- the two ways of a byte where a character begins
pub data First (d : ℕ) : Type 0 where
  no_first : begins d ≡ false → follow d ≡ none → First d
  first_of : (n : ℕ) → n ≤ 3 → begins d ≡ true → follow d ≡ some (more n d) → Leaves d n → First d

module _ (d : ℕ) where
  begins-low : d ≤ 0x7F → begins d ≡ true
  begins-low h = rw (le-leb d 0x7F h)

  pub begins-high : 0xC2 ≤ d → d ≤ 0xF4 → begins d ≡ true
  begins-high l h = rw (lt-leb d 0x7F (omega arith), in_range (0xC2 to 0xF4) d l h)

  leaves : (n : ℕ) → leb 1 n ≡ leb 0xC0 d → leb 2 n ≡ leb 0xE0 d → leb 3 n ≡ leb 0xF0 d → Leaves d n
  leaves n e f g = record { one = e; two = f; three = g }

  leaves_none : d < 0xC0 → Leaves d 0
  leaves_none h = leaves 0 (sym (lt-leb 0xC0 d h)) (sym (lt-leb 0xE0 d (omega arith))) (sym (lt-leb 0xF0 d (omega arith)))

  leaves_one : 0xC0 ≤ d → d < 0xE0 → Leaves d 1
  leaves_one l h = leaves 1 (sym (le-leb 0xC0 d l)) (sym (lt-leb 0xE0 d h)) (sym (lt-leb 0xF0 d (omega arith)))

  leaves_two : 0xE0 ≤ d → d < 0xF0 → Leaves d 2
  leaves_two l h = leaves 2 (sym (le-leb 0xC0 d (omega arith))) (sym (le-leb 0xE0 d l)) (sym (lt-leb 0xF0 d h))

  leaves_three : 0xF0 ≤ d → Leaves d 3
  leaves_three l = leaves 3 (sym (le-leb 0xC0 d (omega arith))) (sym (le-leb 0xE0 d (omega arith))) (sym (le-leb 0xF0 d l))

  -- the second byte's range is the one in the table
  of_two : {r : Range} → second d ≡ r → 0xE0 ≤ d → d < 0xF0 → follow d ≡ some (r ∷ tail ∷ []) → First d
  of_two {r} e l h f = first_of 2 (omega arith) (begins-high (omega arith) (omega arith)) (rw e f) (leaves_two l h)

  of_three : {r : Range} → second d ≡ r → 0xF0 ≤ d → d ≤ 0xF4 → follow d ≡ some (r ∷ tail ∷ tail ∷ []) → First d
  of_three {r} e l h f = first_of 3 (omega arith) (begins-high (omega arith) h) (rw e f) (leaves_three l)

  second_at : (x : ℕ) → d ≡ x → second d ≡ second x
  second_at x e = rw e

begins-follow : (d : ℕ) → If (λ rs. begins d ≡ true) (follow d)
begins-follow =
    by_test (λ r rs. leb r.high 0x7F || (leb 0xC2 r.low && leb r.high 0xF4)) (λ d rs. begins d ≡ true) refl
    (λ r rs e d l h. either (leb r.high 0x7F) _ e
    (λ f. begins-low d (omega (arith, leb-true r.high 0x7F f)))
    (λ f. begins-high d (omega (arith, leb-true 0xC2 r.low (and_left (leb 0xC2 r.low) _ f)))
    (omega (arith, leb-true r.high 0xF4 (and_right (leb 0xC2 r.low) _ f)))))

follow_none : (d : ℕ) (o : Option (List Range)) → If (λ rs. begins d ≡ true) o → begins d ≡ false → o ≡ none
follow_none d none k e = refl
follow_none d (some rs) k e = clash k e

pub first : (d : ℕ) → First d
first d =
    up-to d 0x7F (λ h. first_of 0 (omega arith) (begins-low d h) (alternative 0 d refl (omega arith) h) (leaves_none d (omega arith))) (λ l1.
    up-to d 0xC1 (λ h. neither (rw (lt-leb d 0x7F l1, lt-leb 0xC2 d (omega arith)))) (λ l2.
    up-to d 0xDF (λ h. first_of 1 (omega arith) (begins-high d l2 (omega arith))
    (rw (second-tail d (common_low d (omega arith))) (alternative 1 d refl l2 h)) (leaves_one d (omega arith) (omega arith))) (λ l3.
    up-to d 0xE0 (λ h. of_two d (second_at d 0xE0 (omega arith)) l3 (omega arith) (alternative 2 d refl l3 h)) (λ l4.
    up-to d 0xEC (λ h. of_two d (others (λ e. omega arith) (λ e. omega arith) (λ e. omega arith) (λ e. omega arith)) (omega arith) (omega arith)
    (alternative 3 d refl l4 h)) (λ l5.
    up-to d 0xED (λ h. of_two d (second_at d 0xED (omega arith)) (omega arith) (omega arith) (alternative 4 d refl l5 h)) (λ l6.
    up-to d 0xEF (λ h. of_two d (others (λ e. omega arith) (λ e. omega arith) (λ e. omega arith) (λ e. omega arith)) (omega arith) (omega arith)
    (alternative 5 d refl l6 h)) (λ l7.
    up-to d 0xF0 (λ h. of_three d (second_at d 0xF0 (omega arith)) (omega arith) (omega arith) (alternative 6 d refl l7 h)) (λ l8.
    up-to d 0xF3 (λ h. of_three d (others (λ e. omega arith) (λ e. omega arith) (λ e. omega arith) (λ e. omega arith)) (omega arith) (omega arith)
    (alternative 7 d refl l8 h)) (λ l9.
    up-to d 0xF4 (λ h. of_three d (second_at d 0xF4 (omega arith)) (omega arith) h (alternative 8 d refl l9 h)) (λ l10.
    neither (rw (lt-leb d 0x7F (omega arith), le-leb 0xC2 d (omega arith), lt-leb d 0xF4 l10))))))))))))
  where
    neither : begins d ≡ false → First d
    neither e = no_first e (follow_none d (follow d) (begins-follow d) e)

    others : (d ≡ 0xE0 → ⊥) → (d ≡ 0xED → ⊥) → (d ≡ 0xF0 → ⊥) → (d ≡ 0xF4 → ⊥) → second d ≡ tail
    others e f g h = second-tail d (common d e f g h)

-- ---- every place

-- each byte may stand after those before it, of which a, b, c are the last three, and nothing is to come at the end
unfoldable pub near : ℕ → ℕ → ℕ → List ℕ → Bool
near a b c [] = not (owed a b c || owed b c 0 || owed c 0 0)
near a b c (d ∷ s) = stands a b c d && near b c d s

-- after these three bytes so many are to come
record Due (a b c n : ℕ) : Type 0 where
  pub one : leb 1 n ≡ owed a b c
  pub two : leb 2 n ≡ owed b c 0
  pub three : leb 3 n ≡ owed c 0 0

-- where none is, a first byte says how many; a tail is one of them
due_first : (a b c d n : ℕ) → Due a b c 0 → Leaves d n → Due b c d n
due_first a b c d n k l =
    let e : (leb 0xF0 b || leb 0xE0 c) ≡ false = or_left (leb 0xF0 b || leb 0xE0 c) false (sym k.two) in
    let f : leb 0xF0 c ≡ false = or_left (leb 0xF0 c) false (or_left (leb 0xF0 c || false) false (sym k.three)) in
    record { one = rw e l.one; two = rw (f, or-false (leb 0xE0 d)) l.two; three = rw (or-false (leb 0xF0 d), or-false (leb 0xF0 d)) l.three }

due_tail : (a b c d n : ℕ) → n ≤ 2 → Due a b c (suc n) → d < 0xC0 → Due b c d n
due_tail a b c d n m k h =
    record {
      one = rw (lt-leb 0xC0 d h) (leb-suc 1 n ∙ k.two);
      two = rw (lt-leb 0xE0 d (omega arith)) (leb-suc 2 n ∙ k.three);
      three = rw (lt-leb 0xF0 d (omega arith)) (lt-leb 3 n (omega arith));
    }
  where
    leb-suc : (x y : ℕ) → leb x y ≡ leb (suc x) (suc y)
    leb-suc x y = split (leb x y) (λ e. e ∙ sym (le-leb (suc x) (suc y) (omega (arith, leb-true x y e)))) (λ e. e ∙ sym (lt-leb (suc x) (suc y) (omega (arith, leb-false x y e))))

-- what may stand after c is a tail
second_tails : (c : ℕ) → (0x80 ≤ (second c).low) × ((second c).high ≤ 0xBF)
second_tails c =
    split (eqb c 0xE0) (λ x. rw x (omega arith)) (λ x.
    split (eqb c 0xED) (λ y. rw (x, y) (omega arith)) (λ y.
    split (eqb c 0xF0) (λ z. rw (x, y, z) (omega arith)) (λ z.
    split (eqb c 0xF4) (λ w. rw (x, y, z, w) (omega arith)) (λ w.
    rw (x, y, z, w) (omega arith)))))

pub second-low : (c : ℕ) → 0x80 ≤ (second c).low
second-low c = (second_tails c).0

pub second-within : (c d : ℕ) → within (second c) d ≡ true → (0x80 ≤ d) × (d ≤ 0xBF)
second-within c d e =
    let t = second_tails c in
    (omega (arith, t.0, range_low (second c) d e), omega (arith, t.1, range_high (second c) d e))

more_tails : (n d : ℕ) → d < 0xC0 → replicate n tail ≡ more n d
more_tails zero d h = refl
more_tails (suc n) d h = rw (second-tail d (common_low d (omega arith)))

pub none_after : (s : List ℕ) → utf8_after none s ≡ false
unfolding utf8_after
none_after [] = refl
none_after (x ∷ s) = refl

begin : (s : List ℕ) (d : ℕ) (x : Bool) → First d → ((n : ℕ) → n ≤ 3 → Leaves d n → utf8_after (some (more n d)) s ≡ x)
    → utf8_after (follow d) s ≡ (begins d && x)
begin s d x (no_first f g) k = rw (f, g) (none_after s)
begin s d x (first_of n h f g l) k = rw (f, g) (k n h l)

near_after : (s : List ℕ) (a b c n : ℕ) → n ≤ 3 → Due a b c n → utf8_after (some (more n c)) s ≡ near a b c s
unfolding utf8_after near stands
near_after [] a b c zero m k = rw (← k.one, ← k.two, ← k.three)
near_after [] a b c (suc n) m k = rw (← k.one, le-leb 1 (suc n) (omega arith))
near_after (d ∷ s) a b c (suc n) m k =
    let e : owed a b c ≡ true = sym k.one ∙ le-leb 1 (suc n) (omega arith) in
    rw e
    (split (within (second c) d)
    (λ f. let t = second-within c d f in
    rw (f, more_tails n d (omega (arith, t.1))) (near_after s b c d n (omega arith) (due_tail a b c d n (omega arith) k (omega (arith, t.1)))))
    (λ f. rw f))
near_after (d ∷ s) a b c zero m k =
    let e : owed a b c ≡ false = sym k.one in
    rw e (begin s d (near b c d s) (first d) (λ n h l. near_after s b c d n h (due_first a b c d n k l)))

pub utf8_near : (s : List ℕ) → utf8 s ≡ near 0 0 0 s
utf8_near s = near_after s 0 0 0 0 (omega arith) record { one = refl; two = refl; three = refl }
