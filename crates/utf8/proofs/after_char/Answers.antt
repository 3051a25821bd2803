-- Test by test: what has passed is what the character's bytes are so far.
use mathlib.Core.Path.{◌≡◌, sym, ◌∙◌}
use mathlib.Core.Bool.{true, false}
use Prim.Native.Nat.{◌+◌, ◌<◌}
use native.Mathlib.Omega.{arith}
use lib.ListN.{length, get_or}
use Rattle.model.specs.Utf8.{within, tail}
use Rattle.utf8.specs.Places.{barred}
use Rattle.utf8.proofs.CharLaws.{tail-inside, none-second, none-barred, none-third, none-past, none-fourth, reached_one, reached-two, reached-three, reached-four}
use Rattle.utf8.proofs.after_char.Goals as goal
use Rattle.utf8.proofs.after_char.Goals.{Else-is_barred, Else-not-is_tail, Else-not-is_tail-2, Else-not-is_tail-3}

-- the second byte is a tail, and not barred; the third and the fourth are tails
second : (c : Else-not-is_tail) → let a = c.args in within tail (get_or a.s.now (a.at + 1) 0) ≡ true
second c = sym c.is_tail.ensures ∙ c.if-not-is_tail.false

second-in : (c : Else-not-is_tail) → let a = c.args in a.at + 1 < length a.s.now
second-in c = let a = c.args in tail-inside a.s.now (a.at + 1) (second c)

allowed : (c : Else-is_barred) → let a = c.args in barred (get_or a.s.now a.at 0) (get_or a.s.now (a.at + 1) 0) ≡ false
allowed c = sym c.is_barred.ensures ∙ c.if-is_barred.false

third : (c : Else-not-is_tail-2) → let a = c.args in within tail (get_or a.s.now (a.at + 2) 0) ≡ true
third c = sym c.is_tail-2.ensures ∙ c.if-not-is_tail-2.false

third-in : (c : Else-not-is_tail-2) → let a = c.args in a.at + 2 < length a.s.now
third-in c = let a = c.args in tail-inside a.s.now (a.at + 2) (third c)

fourth : (c : Else-not-is_tail-3) → let a = c.args in within tail (get_or a.s.now (a.at + 3) 0) ≡ true
fourth c = sym c.is_tail-3.ensures ∙ c.if-not-is_tail-3.false

fourth-in : (c : Else-not-is_tail-3) → let a = c.args in a.at + 3 < length a.s.now
fourth-in c = let a = c.args in tail-inside a.s.now (a.at + 3) (fourth c)

pub returns-then-a-lt128 : goal.returns-then-a-lt128
returns-then-a-lt128 c = reached_one _ _ c.requires c.if-a-lt128.true

pub returns-then-not-is_tail : goal.returns-then-not-is_tail
returns-then-not-is_tail c =
    none-second _ _ c.requires c.if-a-lt128.false
    (sym c.is_tail.ensures ∙ c.if-not-is_tail.true)

pub overflow_add-result-then-a-lt224 : goal.overflow_add-result-then-a-lt224
overflow_add-result-then-a-lt224 c = omega (arith, second-in (goal.at.overflow_add-result-then-a-lt224 c).Else-not-is_tail)

pub returns-then-a-lt224 : goal.returns-then-a-lt224
returns-then-a-lt224 c = reached-two _ _ c.requires (second (goal.at.returns-then-a-lt224 c).Else-not-is_tail) (omega arith) c.if-a-lt224.true

pub bounds-s-at-2 : goal.bounds-s-at-2
bounds-s-at-2 c = second-in (goal.at.bounds-s-at-2 c).Else-not-is_tail

pub returns-then-is_barred : goal.returns-then-is_barred
returns-then-is_barred c =
    none-barred _ _ c.requires c.if-a-lt128.false (second (goal.at.returns-then-is_barred c).Else-not-is_tail)
    (sym c.is_barred.ensures ∙ c.if-is_barred.true)

pub overflow_add-at-3 : goal.overflow_add-at-3
overflow_add-at-3 c = omega (arith, second-in (goal.at.overflow_add-at-3 c).Else-not-is_tail)

pub returns-then-not-is_tail-2 : goal.returns-then-not-is_tail-2
returns-then-not-is_tail-2 c =
    none-third _ _ c.requires c.if-a-lt128.false c.if-a-lt224.false
    (sym c.is_tail-2.ensures ∙ c.if-not-is_tail-2.true)

pub overflow_add-result-then-a-lt240 : goal.overflow_add-result-then-a-lt240
overflow_add-result-then-a-lt240 c = omega (arith, third-in (goal.at.overflow_add-result-then-a-lt240 c).Else-not-is_tail-2)

pub returns-then-a-lt240 : goal.returns-then-a-lt240
returns-then-a-lt240 c =
    reached-three _ _ c.requires (second (goal.at.returns-then-a-lt240 c).Else-not-is_tail) (allowed (goal.at.returns-then-a-lt240 c).Else-is_barred) (third (goal.at.returns-then-a-lt240 c).Else-not-is_tail-2)
    c.if-a-lt224.false c.if-a-lt240.true

pub returns-then-a-gt244 : goal.returns-then-a-gt244
returns-then-a-gt244 c = none-past _ _ c.requires c.if-a-lt128.false c.if-a-gt244.true

pub overflow_add-at-4 : goal.overflow_add-at-4
overflow_add-at-4 c = omega (arith, third-in (goal.at.overflow_add-at-4 c).Else-not-is_tail-2)

pub returns-then-not-is_tail-3 : goal.returns-then-not-is_tail-3
returns-then-not-is_tail-3 c =
    none-fourth _ _ c.requires c.if-a-lt128.false c.if-a-lt240.false
    (sym c.is_tail-3.ensures ∙ c.if-not-is_tail-3.true)

pub overflow_add-result-2 : goal.overflow_add-result-2
overflow_add-result-2 c = omega (arith, fourth-in c)

pub returns : goal.returns
returns c =
    reached-four _ _ c.requires (second (goal.at.returns c).Else-not-is_tail) (allowed (goal.at.returns c).Else-is_barred) (third (goal.at.returns c).Else-not-is_tail-2)
    (fourth c) c.if-a-lt240.false c.if-a-gt244.false
