-- One turn of each loop over a block: the words that stand in the array so far are those of the definition, and so are the steps over them.
use Rattle.std.proofs.Common.{◌≡◌, ℕ, zero, suc, ◌+◌, ◌-◌, ◌*◌, ◌<◌, ◌≤◌, List, length, get_or, take, set, sym, refl, ap, ◌∙◌, ap₂, add-zero, add-suc, add-one, arith, length-append, length-take-le, take_all, get_or-take, take-suc-set}
use lib.Seq.{take-append-le}
use Rattle.model.specs.Sha256.{◌⊞◌, σ0, σ1, State, K, word_at, words_of, next_word, extend, step, steps}
use Rattle.sha256.specs.Views.{Begun}

pub load-next : (w block : List ℕ) (n v : ℕ) → n < length w → take n w ≡ words_of n block → v ≡ word_at block (4 * n)
    → take (n + 1) (set w n v) ≡ words_of (n + 1) block
unfolding words_of
load-next w block n v h e f = rw (add-one, take-suc-set w n v h, e, f)

next-is : (w : List ℕ) (n : ℕ)
    → next_word (take (n + 16) w) (16 + n) ≡ σ1 (get_or w (n + 14) 0) ⊞ get_or w (n + 9) 0 ⊞ σ0 (get_or w (n + 1) 0) ⊞ get_or w n 0
unfolding next_word
next-is w n =
    let a : 16 + n - 2 ≡ n + 14 = omega arith in
    let b : 16 + n - 7 ≡ n + 9 = omega arith in
    let c : 16 + n - 15 ≡ n + 1 = omega arith in
    let d : 16 + n - 16 ≡ n = omega arith in
    rw (a, b, c, d, get_or-take (n + 16) w (n + 14) 0 (omega arith), get_or-take (n + 16) w (n + 9) 0 (omega arith), get_or-take (n + 16) w (n + 1) 0 (omega arith), get_or-take (n + 16) w n 0 (omega arith))

-- ---- the schedule, from sixteen words

length-extend : (n : ℕ) (x : List ℕ) → length x ≡ 16 → length (extend n x) ≡ n + 16
unfolding extend
length-extend zero x h = h
length-extend (suc n) x h = rw (length-append, length-extend n x h) (omega arith)

-- fewer of its words are the first of more
first_words : (n m : ℕ) (x : List ℕ) → length x ≡ 16 → take (n + 16) (extend (n + m) x) ≡ extend n x
unfolding extend
first_words n zero x h = rw (add-zero n) (take_all (n + 16) (extend n x) (rw (length-extend n x h) (omega arith)))
first_words n (suc m) x h = rw (add-suc n m) (take-append-le (n + 16) (extend (n + m) x) _ (rw (length-extend (n + m) x h) (omega arith)) ∙ first_words n m x h)

first_of_48 : (n : ℕ) (x : List ℕ) → length x ≡ 16 → n ≤ 48 → take (n + 16) (extend 48 x) ≡ extend n x
first_of_48 n x h l =
    let e : 48 ≡ n + (48 - n) = omega arith in
    ap (λ (k : ℕ). take (n + 16) (extend k x)) e ∙ first_words n (48 - n) x h

-- the sixteen words begin it
pub begun : (w : List ℕ) → length w ≡ 64 → Begun 16 (take 16 w) w
unfolding extend
begun w h = sym (first_of_48 0 (take 16 w) (length-take-le 16 w (omega arith)) (omega arith))

-- as many, said otherwise
pub as_many : (w x : List ℕ) (i j : ℕ) → i ≡ j → Begun i x w → Begun j x w
as_many w x i j h e = rw (← h) e

-- one word more
pub expand_next : (w x : List ℕ) (n i v : ℕ) → n + 17 ≡ i → length w ≡ 64 → length x ≡ 16 → n < 48 → Begun (n + 16) x w
    → v ≡ σ1 (get_or w (n + 14) 0) ⊞ get_or w (n + 9) 0 ⊞ σ0 (get_or w (n + 1) 0) ⊞ get_or w n 0
    → Begun i x (set w (n + 16) v)
unfolding extend
expand_next w x n i v j h l b e f =
    let s : i ≡ suc (n + 16) = omega arith in
    let p : take (n + 16) w ≡ extend n x = e ∙ first_of_48 n x l (omega arith) in
    let q : take (suc n + 16) (extend 48 x) ≡ extend (suc n) x = first_of_48 (suc n) x l (omega arith) in
    let r : suc n + 16 ≡ suc (n + 16) = omega arith in
    rw (s, take-suc-set w (n + 16) v (omega arith), ← r, q, ← p, next-is w n, f)

-- there are no more
pub no_more : (w x : List ℕ) (i j : ℕ) → length w ≡ 64 → length x ≡ 16 → 64 ≤ i → 64 ≤ j → Begun i x w → Begun j x w
no_more w x i j h l a b e =
    let k : length (extend 48 x) ≡ 64 = length-extend 48 x l in
    take_all j w (omega arith) ∙ sym (take_all i w (omega arith)) ∙ e ∙ take_all i (extend 48 x) (omega (arith, k)) ∙ sym (take_all j (extend 48 x) (omega (arith, k)))

-- ---- the steps

-- one step, to the number that it leads to; and four
step_to : (k w : List ℕ) (i j : ℕ) (s r z : State) → i + 1 ≡ j → k ≡ K → s ≡ steps i w z → r ≡ step s (get_or k i 0) (get_or w i 0) → r ≡ steps j w z
unfolding steps
step_to k w i j s r z h e p q =
    let n : j ≡ suc i = omega arith in
    rw n (cc)

pub four_steps : (k w : List ℕ) (t : ℕ) (s s1 s2 s3 r : State) → k ≡ K → s1 ≡ step s (get_or k t 0) (get_or w t 0)
    → s2 ≡ step s1 (get_or k (t + 1) 0) (get_or w (t + 1) 0) → s3 ≡ step s2 (get_or k (t + 2) 0) (get_or w (t + 2) 0)
    → r ≡ step s3 (get_or k (t + 3) 0) (get_or w (t + 3) 0) → (z : State) → s ≡ steps t w z → r ≡ steps (t + 4) w z
four_steps k w t s s1 s2 s3 r e q1 q2 q3 q4 z p =
    let p1 : s1 ≡ steps (t + 1) w z = step_to k w t (t + 1) s s1 z (omega arith) e p q1 in
    let p2 : s2 ≡ steps (t + 2) w z = step_to k w (t + 1) (t + 2) s1 s2 z (omega arith) e p1 q2 in
    let p3 : s3 ≡ steps (t + 3) w z = step_to k w (t + 2) (t + 3) s2 s3 z (omega arith) e p2 q3 in
    step_to k w (t + 3) (t + 4) s3 r z (omega arith) e p3 q4

-- the first t steps are the same over schedules whose first t words are
same-steps : (t n : ℕ) (w v : List ℕ) → t ≤ n → take n w ≡ take n v → (z : State) → steps t w z ≡ steps t v z
unfolding steps
same-steps zero n w v h e z = refl
same-steps (suc t) n w v h e z =
    let g : get_or w t 0 ≡ get_or v t 0 = sym (get_or-take n w t 0 (omega arith)) ∙ ap (λ (l : List ℕ). get_or l t 0) e ∙ get_or-take n v t 0 (omega arith) in
    ap₂ (λ (s : State) (i : ℕ). step s (get_or K t 0) i) (same-steps t n w v (omega arith) e z) g

-- four steps over an array that has the words they need
pub four_more : (w x : List ℕ) (t i j : ℕ) (s r z : State) → t + 4 ≡ i → i ≤ j → Begun j x w
    → ((y : State) → s ≡ steps t w y → r ≡ steps (t + 4) w y) → s ≡ steps t (extend 48 x) z → r ≡ steps i (extend 48 x) z
four_more w x t i j s r z h l b f e =
    rw (← h) (f z (e ∙ sym (same-steps t j w (extend 48 x) (omega arith) b z)) ∙ same-steps (t + 4) j w (extend 48 x) (omega arith) b z)
