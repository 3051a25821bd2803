-- The conditions of the separation of holders are met by calls of the entries, and freshness and room are both needed for them: the traces of
-- `examples` are traces of calls.
-- Assumes nothing.
use mathlib.Core.Path.{◌≡◌, refl, sym, ap, ◌∙◌}
use mathlib.Core.Bool.{Bool, true, false}
use mathlib.Core.List.{List, [], ◌∷◌, map}
use mathlib.Core.Option
use mathlib.Core.Option.{Option, some}
use Prim.Native.Nat.{ℕ}
use native.Mathlib.Omega.{arith}
use Rattle.model.specs.Lists.{first, all}
use Rattle.model.specs.Commands.{Result, refused, gave}
use Rattle.model.specs.Traces.{Step, observe, Comparable}
use Rattle.model.proofs.Basics.{impossible}
use Rattle.model.proofs.Computing.{computing}
use Rattle.examples.proofs.Conditions.{owner, quiet, busy, refusing, filling, taken, taken_among, repeated, crowded, met, met-full, met-taking, Needed, freshness_needed, room_needed}
use Rattle.key_table.specs.Views.{table_value}
use Rattle.key_table.proofs.TidyLaws.{view_of_value}
use Rattle.separation.specs.Calls.{Made, Held, by_value, as_stored, Calls, steps, Said, wrote, done, Told, told_to, Empty, offered}
use Rattle.separation.proofs.SeparationOfCalls.{found, seen_as, calls_are}
use Rattle.separation.proofs.EveryTrace.{every_trace}

-- the empty table, in its stored form and by value
abbrev pub none_stored : Held
none_stored = as_stored []

abbrev pub none_by_value : Held
none_by_value = by_value (table_value [])

empty-stored : Empty none_stored
unfolding computing
empty-stored = refl

empty_by_value : Empty none_by_value
unfolding computing
empty_by_value = found (table_value []) [] (view_of_value [] (omega arith) refl) refl

-- calls of which the first is handed this, and the trace that they are
abbrev pub CallsOf : Held → List Step → Type 0
CallsOf k ss = (ms : List Made) × Calls k ms × (steps ms ≡ ss)

-- ---- met: the holder alone, and among busy strangers; with refused calls, bytes that are no command and a full table

pub record MetByCalls (a b : List Step) : Type 0 where
  pub first : CallsOf none_stored a
  pub second : CallsOf none_by_value b
  pub conditions : Comparable (owner 1) (steps first.0) (steps second.0)

met_so : (a b : List Step) → all offered a ≡ true → all offered b ≡ true → Comparable (owner 1) a b → MetByCalls a b
met_so a b oa ob c =
    let p = every_trace none_stored empty-stored a oa in
    let q = every_trace none_by_value empty_by_value b ob in
    record { first = p; second = q; conditions = rw (p.2, q.2) c }

pub met_by_calls : MetByCalls quiet busy
met_by_calls = met_so quiet busy refl refl met.conditions

pub met-full_by_calls : MetByCalls refusing filling
met-full_by_calls = met_so refusing filling refl refl met-full.conditions

-- with withdrawals, a full table among them
pub met-taking_by_calls : MetByCalls taken taken_among
met-taking_by_calls = met_so taken taken_among refl refl met-taking.conditions

-- ---- needed: without freshness, or without room, the holder is told something else first

-- a response is told by 0, a draft by 1
abbrev number_of : Told → ℕ
number_of t = number t.says
  where
    number : Result Said → ℕ
    number (refused n) = 2
    number (gave (wrote w)) = w.answer
    number (gave done) = 3

first-map : {A B : Type 0} (f : A → B) (xs : List A) → first (map f xs) ≡ Option.map f (first xs)
first-map f [] = refl
first-map f (x ∷ xs) = refl

-- what is told first, by what the trace says
told-first : (k : Held) (ss : List Step) → Empty k → (c : CallsOf k ss) → first (told_to (owner 1) k c.0) ≡ Option.map seen_as (first (observe (owner 1) ss []))
told-first k ss e (ms, c, q) = rw ((calls_are (owner 1) k ms [] e c).seen, q) (first-map seen_as (observe (owner 1) ss []))

-- all that `Needed` says of the trace, and calls that are it
pub record NeededByCalls (ss : List Step) (fresh-is roomy-is : Bool) (status-is : ℕ) : Type 0 where
  pub needed : Needed ss fresh-is roomy-is status-is
  pub quietly : CallsOf none_stored quiet
  pub so : CallsOf none_stored ss
  pub differ : told_to (owner 1) none_stored quietly.0 ≡ told_to (owner 1) none_stored so.0 → ⊥

needed_by_calls : (ss : List Step) (f r : Bool) (n : ℕ) → all offered ss ≡ true → Needed ss f r n → NeededByCalls ss f r n
needed_by_calls ss f r n o w =
    let q = every_trace none_stored empty-stored quiet refl in
    let b = every_trace none_stored empty-stored ss o in
    record {
      needed = w;
      quietly = q;
      so = b;
      differ = λ e.
          let i = sym (told-first none_stored quiet empty-stored q) ∙ ap first e ∙ told-first none_stored ss empty-stored b in
          let j : Option.map number_of (Option.map seen_as (first (observe (owner 1) quiet []))) ≡ Option.map number_of (Option.map seen_as (first (observe (owner 1) ss []))) = ap (Option.map number_of) i in
          let k : ◌≡◌ {A = Option ℕ} (some 1) (some 0) = rw (w.answer-a, w.answer-b) at j in
          impossible cc;
    }

pub freshness_needed_by_calls : NeededByCalls repeated false true 0x01
freshness_needed_by_calls = needed_by_calls repeated false true 0x01 refl freshness_needed

pub room_needed_by_calls : NeededByCalls crowded true false 0x0F
room_needed_by_calls = needed_by_calls crowded true false 0x0F refl room_needed
