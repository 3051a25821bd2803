-- Tests, byte strings, selections, and lists of checks.
-- Assumes nothing.
use mathlib.Core.Path.{◌≡◌, refl, sym, ◌∙◌}
use mathlib.Core.Bool.{Bool, true, false, not, ◌&&◌, ◌||◌}
use mathlib.Core.List.{List, [], ◌∷◌, ◌++◌, map}
use mathlib.Core.Option.{some}
use Prim.Native.Nat.{ℕ, zero, suc, ◌≤◌, ◌<◌}
use native.Mathlib.Omega.{arith}
use lib.ListN.{length, get_or}
use lib.Dec.{leb, eqb}
use borrow.Author.Tests.{leb-true, leb-false, eqb-true, eqb-false, eq-eqb}
use Rattle.model.specs.Lists.{all, select, first, eq_bytes}
use Rattle.model.specs.Commands.{Check, judge}

-- ---- tests

pub split {ℓ} : {G : Type ℓ} (b : Bool) → (b ≡ true → G) → (b ≡ false → G) → G
split true f g = f refl
split false f g = g refl

-- where `cc` finds two constructors equal, anything follows: `impossible cc`
pub impossible {ℓ} : {G : Type ℓ} → ◌≡◌ {A = ℕ} 0 1 → G
impossible z = absurd (omega arith)

pub clash {ℓ} : {G : Type ℓ} {b : Bool} → b ≡ true → b ≡ false → G
clash {b = b} p q = impossible cc

pub and_left : (a b : Bool) → (a && b) ≡ true → a ≡ true
and_left true b e = refl
and_left false b e = e

pub and_right : (a b : Bool) → (a && b) ≡ true → b ≡ true
and_right true b e = e
and_right false b e = clash e refl

pub both : {a b : Bool} → a ≡ true → b ≡ true → (a && b) ≡ true
both {a} {b} p q = cc

pub or_left : (a b : Bool) → (a || b) ≡ false → a ≡ false
or_left true b e = e
or_left false b e = refl

pub or_right : (a b : Bool) → (a || b) ≡ false → b ≡ false
or_right true b e = clash refl e
or_right false b e = e

pub either : {G : Type 0} (a b : Bool) → (a || b) ≡ true → (a ≡ true → G) → (b ≡ true → G) → G
either true b e f g = f refl
either false b e f g = g e

pub not-not : (b : Bool) → not b ≡ false → b ≡ true
not-not true e = refl
not-not false e = sym e

-- ---- numbers

-- a test of each number below a bound
abbrev pub all_below : ℕ → (ℕ → Bool) → Bool
all_below zero p = true
all_below (suc n) p = p n && all_below n p

pub below : (n : ℕ) (p : ℕ → Bool) → all_below n p ≡ true → (j : ℕ) → j < n → p j ≡ true
below zero p e j h = absurd (omega arith)
below (suc n) p e j h =
    split (eqb j n)
    (λ f. rw (eqb-true j n f) (and_left (p n) _ e))
    (λ f. below n p (and_right (p n) _ e) j (omega (arith, eqb-false j n f)))

-- a number goes up to another, or past it
pub up-to : {G : Type 0} (v n : ℕ) → (v ≤ n → G) → (n < v → G) → G
up-to v n f g = split (leb v n) (λ h. f (leb-true v n h)) (λ h. g (leb-false v n h))

-- ---- byte strings

pub eq_bytes-refl : (s : List ℕ) → eq_bytes s s ≡ true
unfolding eq_bytes
eq_bytes-refl [] = refl
eq_bytes-refl (x ∷ s) = both (eq-eqb x x refl) (eq_bytes-refl s)

pub eq_bytes-eq : (s t : List ℕ) → eq_bytes s t ≡ true → s ≡ t
unfolding eq_bytes
eq_bytes-eq [] [] e = refl
eq_bytes-eq [] (y ∷ t) e = clash e refl
eq_bytes-eq (x ∷ s) [] e = clash e refl
eq_bytes-eq (x ∷ s) (y ∷ t) e =
    let p : x ≡ y = eqb-true x y (and_left (eqb x y) (eq_bytes s t) e) in
    let q : s ≡ t = eq_bytes-eq s t (and_right (eqb x y) (eq_bytes s t) e) in
    cc

pub eq_bytes-same : {s t : List ℕ} → s ≡ t → eq_bytes s t ≡ true
eq_bytes-same {s} {t} e = rw e (eq_bytes-refl t)

pub eq_bytes_sym : (s t : List ℕ) → eq_bytes s t ≡ eq_bytes t s
eq_bytes_sym s t =
    split (eq_bytes s t)
    (λ p. p ∙ sym (eq_bytes-same (sym (eq_bytes-eq s t p))))
    (λ p. split (eq_bytes t s) (λ q. clash (eq_bytes-same (sym (eq_bytes-eq t s q))) p) (λ q. p ∙ sym q))

pub eq_bytes-not : (s t : List ℕ) → (s ≡ t → ⊥) → eq_bytes s t ≡ false
eq_bytes-not s t h = split (eq_bytes s t) (λ e. absurd (h (eq_bytes-eq s t e))) (λ e. e)

-- ---- selections

module _ {A : Type 0} where
  pub all_same : {p q : A → Bool} → ((x : A) → p x ≡ true → q x ≡ true) → (xs : List A) → all p xs ≡ true → all q xs ≡ true
  all_same f [] e = refl
  all_same {p} {q} f (x ∷ xs) e = both (f x (and_left (p x) _ e)) (all_same f xs (and_right (p x) _ e))

  pub all_append : (p : A → Bool) (xs ys : List A) → all p xs ≡ true → all p ys ≡ true → all p (xs ++ ys) ≡ true
  all_append p [] ys e f = f
  all_append p (x ∷ xs) ys e f = both (and_left (p x) _ e) (all_append p xs ys (and_right (p x) _ e) f)

  pub select-append : (p : A → Bool) (xs ys : List A) → select p (xs ++ ys) ≡ select p xs ++ select p ys
  select-append p [] ys = refl
  select-append p (x ∷ xs) ys = split (p x) (λ e. cc (select-append p xs ys)) (λ e. cc (select-append p xs ys))

  -- two tests in either order
  pub select_comm : (p q : A → Bool) (xs : List A) → select p (select q xs) ≡ select q (select p xs)
  select_comm p q [] = refl
  select_comm p q (x ∷ xs) =
      split (p x) (λ e. split (q x) (λ f. cc (select_comm p q xs)) (λ f. cc (select_comm p q xs)))
      (λ e. split (q x) (λ f. cc (select_comm p q xs)) (λ f. cc (select_comm p q xs)))

  -- a test that is the same, and two tests as one
  pub select-same : (p q : A → Bool) → ((x : A) → p x ≡ q x) → (xs : List A) → select p xs ≡ select q xs
  select-same p q f [] = refl
  select-same p q f (x ∷ xs) = cc (f x, select-same p q f xs)

  pub select_both : (p q : A → Bool) (xs : List A) → select p (select q xs) ≡ select (λ x. q x && p x) xs
  select_both p q [] = refl
  select_both p q (x ∷ xs) = split (q x) (λ e. cc (select_both p q xs)) (λ e. cc (select_both p q xs))

  pub select-all : (p : A → Bool) (xs : List A) → all p xs ≡ true → select p xs ≡ xs
  select-all p [] e = refl
  select-all p (x ∷ xs) e =
      let h : p x ≡ true = and_left (p x) _ e in
      cc (select-all p xs (and_right (p x) _ e))

  pub all-select : (p q : A → Bool) (xs : List A) → all p xs ≡ true → all p (select q xs) ≡ true
  all-select p q [] e = refl
  all-select p q (x ∷ xs) e =
      let ih : all p (select q xs) ≡ true = all-select p q xs (and_right (p x) _ e) in
      split (q x) (λ f. rw f (both (and_left (p x) _ e) ih)) (λ f. rw f ih)

  -- one that passes, and a default that does
  pub all_got : (p : A → Bool) (xs : List A) (i : ℕ) (d : A) → all p xs ≡ true → p d ≡ true → p (get_or xs i d) ≡ true
  all_got p [] i d e h = h
  all_got p (x ∷ xs) zero d e h = and_left (p x) _ e
  all_got p (x ∷ xs) (suc i) d e h = all_got p xs i d (and_right (p x) _ e) h

  pub length-select : (p : A → Bool) (xs : List A) → length (select p xs) ≤ length xs
  length-select p [] = omega arith
  length-select p (x ∷ xs) =
      split (p x) (λ e. rw e (omega (arith, length-select p xs))) (λ e. rw e (omega (arith, length-select p xs)))

module _ {A : Type 0} (p : A → Bool) where
  pub select_narrow : (q : A → Bool) → ((x : A) → p x ≡ true → q x ≡ true) → (xs : List A) → select p (select q xs) ≡ select p xs
  select_narrow q f [] = refl
  select_narrow q f (x ∷ xs) =
      let ih = select_narrow q f xs in
      split (p x) (λ e. let k = f x e in cc) (λ e. split (q x) (λ k. cc) (λ k. cc))

  pub select-map : (f : A → A) → ((x : A) → p (f x) ≡ p x) → (xs : List A) → select p (map f xs) ≡ map f (select p xs)
  select-map f h [] = refl
  select-map f h (x ∷ xs) =
      let ih = select-map f h xs in
      let k = h x in
      split (p x) (λ e. cc) (λ e. cc)

  pub map-select : (f : A → A) → ((x : A) → p x ≡ true → f x ≡ x) → (xs : List A) → map f (select p xs) ≡ select p xs
  map-select f h [] = refl
  map-select f h (x ∷ xs) =
      let ih = map-select f h xs in
      split (p x) (λ e. let k = h x e in cc) (λ e. cc)

  pub all_map : (f : A → A) → ((x : A) → p x ≡ true → p (f x) ≡ true) → (xs : List A) → all p xs ≡ true → all p (map f xs) ≡ true
  all_map f h [] e = refl
  all_map f h (x ∷ xs) e = both (h x (and_left (p x) _ e)) (all_map f h xs (and_right (p x) _ e))

  pub first_passes : (xs : List A) (x : A) → first (select p xs) ≡ some x → p x ≡ true
  first_passes [] x e = cc
  first_passes (y ∷ xs) x e = split (p y) (λ k. cc) (λ k. first_passes xs x (cc))

-- ---- n numbers from a on

abbrev pub numbers_from : ℕ → ℕ → List ℕ
numbers_from a zero = []
numbers_from a (suc n) = a ∷ numbers_from (suc a) n

-- ---- of each element

module _ {A : Type 0} where
  abbrev pub Each : (A → Type 0) → List A → Type 0
  Each P [] = Unit {0}
  Each P (x ∷ xs) = P x × Each P xs

  -- a test of all, and what it tells of each
  pub all-each : (p : A → Bool) (P : A → Type 0) → ((x : A) → p x ≡ true → P x) → (xs : List A) → all p xs ≡ true → Each P xs
  all-each p P f [] e = tt
  all-each p P f (x ∷ xs) e = (f x (and_left (p x) _ e), all-each p P f xs (and_right (p x) _ e))

  pub each_all : (p : A → Bool) (P : A → Type 0) → ((x : A) → P x → p x ≡ true) → (xs : List A) → Each P xs → all p xs ≡ true
  each_all p P f [] e = refl
  each_all p P f (x ∷ xs) e = both (f x e.0) (each_all p P f xs e.1)

  pub each_of : (P : A → Type 0) → ((x : A) → P x) → (xs : List A) → Each P xs
  each_of P f [] = tt
  each_of P f (x ∷ xs) = (f x, each_of P f xs)

  pub each_same : (P Q : A → Type 0) → ((x : A) → P x → Q x) → (xs : List A) → Each P xs → Each Q xs
  each_same P Q f [] e = tt
  each_same P Q f (x ∷ xs) e = (f x e.0, each_same P Q f xs e.1)

-- ---- lists of checks

-- every check passes
abbrev pub Passed : List Check → Type 0
Passed [] = Unit {0}
Passed (c ∷ cs) = (c.fails ≡ false) × Passed cs

module _ {A : Type 0} where
  -- what holds of each check that fails, and of the result where all pass, holds of the judgment
  pub judged : (P : A → Type 0) (cs : List Check) (says : ℕ → A) (passed : A) → ((n : ℕ) → P (says n)) → (Passed cs → P passed)
      → P (judge cs says passed)
  unfolding judge
  judged P [] says passed f g = g tt
  judged P (c ∷ cs) says passed f g =
      split c.fails (λ e. rw e (f c.says)) (λ e. rw e (judged P cs says passed f (λ k. g (e, k))))

  -- what holds of the number of each check that fails, and of the result, holds of the judgment
  pub judged_each : (P : A → Type 0) (cs : List Check) (says : ℕ → A) (passed : A) → Each (λ c. c.fails ≡ true → P (says c.says)) cs
      → P passed → P (judge cs says passed)
  unfolding judge
  judged_each P [] says passed f g = g
  judged_each P (c ∷ cs) says passed f g =
      split c.fails (λ e. rw e (f.0 e)) (λ e. rw e (judged_each P cs says passed f.1 g))

  pub passes : (cs : List Check) (says : ℕ → A) (passed : A) → Passed cs → judge cs says passed ≡ passed
  unfolding judge
  passes [] says passed k = refl
  passes (c ∷ cs) says passed k = rw k.0 (passes cs says passed k.1)

pub judge-map : {A B : Type 0} (f : A → B) (cs : List Check) (says : ℕ → A) (passed : A)
    → f (judge cs says passed) ≡ judge cs (λ n. f (says n)) (f passed)
unfolding judge
judge-map f [] says passed = refl
judge-map f (c ∷ cs) says passed =
    let ih = judge-map f cs says passed in
    split c.fails (λ e. rw e) (λ e. rw e ih)

-- ---- a number that was compared with some and is none of them

-- what was known before, and then that it is not the number of each
abbrev pub NoneOf : {A : Type 0} → (A → ℕ) → Type 0 → ℕ → List A → Type 0
NoneOf of K n [] = K
NoneOf of K n (x ∷ xs) = NoneOf of (K × (n ≡ of x → ⊥)) n xs
