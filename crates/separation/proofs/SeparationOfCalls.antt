-- The separation of holders over the entries' own promises: lists of their calls, in any mixture, are traces.
-- Assumes nothing.
use mathlib.Core.Path.{◌≡◌, refl, sym, ap, ◌∙◌}
use mathlib.Core.Bool.{true, false}
use mathlib.Core.List.{List, [], ◌∷◌, ◌++◌, map, map-append}
use mathlib.Core.Option.{none, some}
use Prim.Native.Nat.{ℕ, ◌<◌}
use native.Mathlib.Omega.{arith}
use borrow.Author.Tests.{ne_eqb}
use lib.ListN.{length, drop}
use lib.Dec.{eqb, ltb}
use lib.Seq.{take_at}
use Rattle.std.specs.Prelude as std
use Rattle.std.specs.Prelude.{Ok, Err}
use Rattle.model.specs.Records.{Table, max_stored, table_ok, encode, decode}
use Rattle.model.specs.Commands.{Call, Given, value, stored, table_of, Result, refused, gave, on_gave, Effect, judge, refusals, outcome, bytes_of, outputs}
use Rattle.model.specs.Withdrawals.{Withdrawal, withdraw_refusals, withdraw}
use Rattle.model.specs.Traces as model
use Rattle.model.specs.Traces.{Act, commands, withdraws, Outcome, outcome_of, Step, handed, result, left_by, next, final, is_of, Seen, observe}
use Rattle.model.proofs.Basics.{split, impossible}
use Rattle.model.proofs.Kept.{guarded, given-ok, kept, withdraw_kept}
use Rattle.model.proofs.StoredForm.{decode-encode}
use Rattle.model.proofs.Rules.{tests}
use Rattle.model.proofs.Separation.{handed-same, separation}
use Rattle.fields.specs.Refusals as written
use Rattle.fields.specs.declared.refusals.Refusal.{Refusal}
use Rattle.authenticator.specs.Outcomes.{is_draft}
use Rattle.key_table.specs.Views.{view_table, table_value}
use Rattle.key_table.specs.Forms.{loading, storing}
use Rattle.key_table.specs.declared.records.Table as by_value
use Rattle.key_table.proofs.TidyLaws.{view_of_value}
use Rattle.by_value.specs.Runs as runs
use Rattle.by_value.specs.declared.Answer.{Answer}
use Rattle.by_value.proofs.RunLaws.{left-view}
use Rattle.by_value.specs.Withdrew as withdrawals
use Rattle.by_value.proofs.WithdrawLaws.{withdrew-view}
use Rattle.token.specs.Returned.{answer_number, returned}
use Rattle.token.specs.Written.{returned_bytes}
use Rattle.token.proofs.EntryLaws.{number_is}
use Rattle.token.proofs.RoundTrip.{one_of}
use Rattle.separation.specs.Calls.{Commanding, Running, Withdrawing, Taking, Storing, Made, command, run, withdrawing, taking, load, store, command_call, run_call, withdrawing_of, taking_of, Held, by_value, as_stored, given_by, Promised, after_storing, held_after, Calls, held_last, steps_of, steps, Said, wrote, done, Told, coded, command_says, run_says, taking_says, told, told_of, told_to, SeparationOfCalls}

-- ---- what a call says and leaves is what the trace says of it

abbrev pub said_as : model.Told → Said
said_as (model.wrote a) = wrote (record { answer = answer_number a; size = length (bytes_of a); bytes = bytes_of a })
said_as model.done = done

abbrev pub says_as : Result model.Told → Result Said
says_as r = on_gave said_as r

-- a call with this result, on this table: what it says, and what is held then
record Is (says : Result Said) (k : Held) (t : Table) (r : Result Outcome) : Type 0 where
  said : says ≡ says_as (on_gave (λ o. o.told) r)
  left : table_of (given_by k) ≡ some (left_by r t)

-- a call looks at the table alone, and not at its form
outcome-of : (a : Act) (g g' : Given) → table_of g ≡ table_of g' → outcome_of a g ≡ outcome_of a g'
unfolding outcome refusals withdraw withdraw_refusals
outcome-of (commands c) g g' e = rw e
outcome-of (withdraws w) g g' e = rw e

-- no refusal has the number 0
positive : (c : Call) (g : Given) (n : ℕ) → outcome c g ≡ refused n → 0 < n
unfolding outcome refusals
positive c g n e =
    one_of (refusals c g) _ (omega arith, (omega arith, (omega arith, (omega arith, tt))))
    (λ k h q. let i = sym e ∙ q in let z : n ≡ k = cc in omega arith)
    (λ q. let i = sym e ∙ q in impossible cc)

no_zero : (n : ℕ) → 0 < n → eqb n 0 ≡ false
no_zero n k = ne_eqb n 0 (λ e. omega arith)

-- what becomes of a command's and of a withdrawal's result in a trace
abbrev command_outcome : Result Effect → Result Outcome
command_outcome r = on_gave (λ e. record { told = model.wrote e.answer; left = e.left }) r

abbrev withdrawal_outcome : Result Table → Result Outcome
withdrawal_outcome r = on_gave (λ t. record { told = model.done; left = t }) r

module _ (m : Commanding) (s : List ℕ) (t : Table) (is : table_of (stored s) ≡ some t) where
  command-refused : (n : ℕ) → 0 < n → m.after ≡ returned (refused n) m.before
      → Is (command_says m.after) (held_after (as_stored s) (command m)) t (refused n)
  unfolding held_after returned table_of
  command-refused n k p = let z = no_zero n k in record { said = rw (p, z); left = rw (p, z) is }

  command-gave : (e : Effect) → table_ok e.left ≡ true → m.after ≡ returned (gave e) m.before
      → Is (command_says m.after) (held_after (as_stored s) (command m)) t (command_outcome (gave e))
  unfolding held_after returned outputs table_of
  command-gave e ok p =
      let f : List ℕ = encode e.left in
      let w = take_at f (drop (length f) m.before.table) (length f) refl in
      let b : List ℕ = bytes_of e.answer in
      let v = take_at b (drop (length b) m.before.response) (length b) refl in
      record { said = rw (p, v); left = rw (p, w) (decode-encode e.left ok) }

  command-is : Promised (as_stored s) (command m)
      → Is (command_says m.after) (held_after (as_stored s) (command m)) t (outcome_of (commands (command_call m)) (stored s))
  command-is p = go (outcome (command_call m) (stored s)) refl
    where
      go : (r : Result Effect) → outcome (command_call m) (stored s) ≡ r
          → Is (command_says m.after) (held_after (as_stored s) (command m)) t (command_outcome r)
      go (refused n) e = command-refused n (positive _ _ n e) (p ∙ ap (λ (r : Result Effect). returned r m.before) e)
      go (gave d) e = command-gave d (kept _ _ d e) (p ∙ ap (λ (r : Result Effect). returned r m.before) e)

-- what a call by value says, by what is said of it and its output
run-says : (o : Result Effect) (x : std.Result Answer Refusal) (s s' : List ℕ) → runs.said x ≡ runs.size_of o
    → s' ≡ (outputs o (record { response = s; table = none })).response → run_says s' x ≡ says_as (on_gave (λ o. o.told) (command_outcome o))
unfolding outputs
run-says (refused n) (Err r) s s' e f = cc e
run-says (refused n) (Ok a) s s' e f = impossible cc
run-says (gave y) (Err r) s s' e f = impossible cc
run-says (gave y) (Ok a) s s' e f =
    let b : List ℕ = bytes_of y.answer in
    let u : runs.Size = record { draft = a.draft; length = a.len } in
    let v : runs.Size = record { draft = is_draft y.answer; length = length b } in
    let z : u ≡ v = cc in
    rw (ap (λ (z : runs.Size). z.draft) z, ap (λ (z : runs.Size). z.length) z, f, number_is y.answer, take_at b (drop (length b) s) (length b) refl)

-- a table by value that obeys the rules is the one that a call finds
pub found : (u : by_value.Table) (t : Table) → view_table u ≡ t → table_ok t ≡ true → table_of (value (view_table u)) ≡ some t
unfolding table_of
found u t e ok = rw (e, ok)

pub view-is : (u : by_value.Table) (t : Table) → table_of (value (view_table u)) ≡ some t → view_table u ≡ t
unfolding table_of
view-is u t is = (guarded (table_ok (view_table u)) is).1

-- what a call leaves obeys the rules
left-ok : (a : Act) (g : Given) (t : Table) → table_of g ≡ some t → table_ok (left_by (outcome_of a g) t) ≡ true
left-ok (commands c) g t is = go (outcome c g) refl
  where
    go : (r : Result Effect) → outcome c g ≡ r → table_ok (left_by (command_outcome r) t) ≡ true
    go (refused n) e = given-ok g t is
    go (gave d) e = kept c g d e
left-ok (withdraws w) g t is = go (withdraw w g) refl
  where
    go : (r : Result Table) → withdraw w g ≡ r → table_ok (left_by (withdrawal_outcome r) t) ≡ true
    go (refused n) e = given-ok g t is
    go (gave u) e = withdraw_kept w g u e

module _ (m : Running) (u : by_value.Table) (t : Table) (is : table_of (value (view_table u)) ≡ some t) where
  abbrev ran_as : Result Effect
  ran_as = outcome (run_call m) (value (view_table u))

  run_is : Promised (by_value u) (run m)
      → Is (run_says m.after m.ran.answered) (held_after (by_value u) (run m)) t (outcome_of (commands (run_call m)) (value (view_table u)))
  unfolding held_after runs.ends
  run_is p =
      let l = outcome_of (commands (run_call m)) (value (view_table u)) in
      let v : view_table m.ran.table ≡ left_by l t =
      ap (λ (y : runs.Ended). view_table y.table) p ∙ left-view (run_call m) _ u ∙ ap (left_by l) (view-is u t is) in
      record {
        said = run-says ran_as m.ran.answered m.before m.after (ap (λ (y : runs.Ended). y.says) p) (ap (λ (y : runs.Ended). y.output) p);
        left = found m.ran.table (left_by l t) v (left-ok (commands (run_call m)) (value (view_table u)) t is);
      }

-- ---- and of a withdrawal

withdraw_positive : (w : Withdrawal) (g : Given) (n : ℕ) → withdraw w g ≡ refused n → 0 < n
unfolding withdraw withdraw_refusals
withdraw_positive w g n e =
    one_of (withdraw_refusals w g) _ (omega arith, (omega arith, (omega arith, (omega arith, (omega arith, (omega arith, tt))))))
    (λ k h q. let i = sym e ∙ q in let z : n ≡ k = cc in omega arith)
    (λ q. let i = sym e ∙ q in impossible cc)

withdrawing-is : (m : Withdrawing) (s : List ℕ) (t : Table) → table_of (stored s) ≡ some t → Promised (as_stored s) (withdrawing m)
    → Is (coded m.after.code done) (held_after (as_stored s) (withdrawing m)) t (outcome_of (withdraws (withdrawing_of m)) (stored s))
unfolding held_after returned_bytes table_of
withdrawing-is m s t is p = go (withdraw (withdrawing_of m) (stored s)) refl p
  where
    go : (r : Result Table) → withdraw (withdrawing_of m) (stored s) ≡ r → m.after ≡ returned_bytes (on_gave encode r) m.before
        → Is (coded m.after.code done) (held_after (as_stored s) (withdrawing m)) t (withdrawal_outcome r)
    go (refused n) e q = let z = no_zero n (withdraw_positive (withdrawing_of m) (stored s) n e) in record { said = rw (q, z); left = rw (q, z) is }
    go (gave u) e q =
        let f : List ℕ = encode u in
        let w = take_at f (drop (length f) m.before.output) (length f) refl in
        record { said = rw q; left = rw (q, w) (decode-encode u (withdraw_kept (withdrawing_of m) (stored s) u e)) }

taking-says : (r : Result Table) (x : std.Result (Unit {0}) Refusal) → withdrawals.said x ≡ on_gave (λ u. tt) r
    → taking_says x ≡ says_as (on_gave (λ o. o.told) (withdrawal_outcome r))
taking-says (refused n) (Err q) e = cc e
taking-says (refused n) (Ok u) e = impossible cc
taking-says (gave t) (Err q) e = impossible cc
taking-says (gave t) (Ok u) e = refl

taking-is : (m : Taking) (u : by_value.Table) (t : Table) → table_of (value (view_table u)) ≡ some t → Promised (by_value u) (taking m)
    → Is (taking_says m.withdrew.done) (held_after (by_value u) (taking m)) t (outcome_of (withdraws (taking_of m)) (value (view_table u)))
unfolding held_after
taking-is m u t is p =
    let g = value (view_table u) in
    let l = outcome_of (withdraws (taking_of m)) g in
    let v : view_table m.withdrew.table ≡ left_by l t =
    ap (λ (y : withdrawals.Ended). view_table y.table) p ∙ withdrew-view (taking_of m) g u ∙ ap (left_by l) (view-is u t is) in
    record {
      said = taking-says (withdraw (taking_of m) g) m.withdrew.done (ap (λ (y : withdrawals.Ended). y.says) p);
      left = found m.withdrew.table (left_by l t) v (left-ok (withdraws (taking_of m)) g t is);
    }

-- ---- reading a stored table and storing one leave the table as it is

load_is : (l : std.Result by_value.Table Refusal) (s : List ℕ) (t : Table) → table_of (stored s) ≡ some t → l ≡ loading (decode s)
    → table_of (given_by (held_after (as_stored s) (load l))) ≡ some t
unfolding held_after loading table_of
load_is l s t is p =
    let k = tests t (given-ok (stored s) t is) in
    let d : decode s ≡ some t = is in
    rw (p, d) (found (table_value t) t (view_of_value t k.few k.each) (given-ok (stored s) t is))

-- a table stored under this result of the model, or not
stored-as : (t : Table) (k : Held) (r : Result (List ℕ)) (w : std.Result ℕ Refusal) (s s' : List ℕ) → written.ended w s' ≡ written.ends r s
    → table_of (given_by k) ≡ some t → ((f : List ℕ) → r ≡ gave f → decode f ≡ some t) → table_of (given_by (after_storing k s' w)) ≡ some t
unfolding written.ends table_of
stored-as t k (refused n) (Err r) s s' p is h = is
stored-as t k (refused n) (Ok m) s s' p is h = let i = ap (λ (y : written.Ended). y.result) p in impossible cc
stored-as t k (gave f) (Err r) s s' p is h = let i = ap (λ (y : written.Ended). y.result) p in impossible cc
stored-as t k (gave f) (Ok m) s s' p is h =
    let i = ap (λ (y : written.Ended). y.result) p in
    let j : m ≡ length f = cc in
    rw (j, ap (λ (y : written.Ended). y.output) p, take_at f (drop (length f) s) (length f) refl) (h f refl)

-- what a store gives is the stored form
storing_gives : (t : Table) (n : ℕ) (f : List ℕ) → table_ok t ≡ true → storing t n ≡ gave f → decode f ≡ some t
unfolding storing judge
storing_gives t n f ok e =
    split (ltb n max_stored)
    (λ b. let i : refused 1 ≡ gave f = rw b at e in impossible cc)
    (λ b. let i : gave (encode t) ≡ gave f = rw (b, ok) at e in let j : f ≡ encode t = cc in rw j (decode-encode t ok))

store_is : (m : Storing) (u : by_value.Table) (t : Table) → table_of (value (view_table u)) ≡ some t → Promised (by_value u) (store m)
    → table_of (given_by (held_after (by_value u) (store m))) ≡ some t
unfolding held_after
store_is m u t is p =
    stored-as t (by_value u) _ m.written m.before m.after p is
    (λ f e. storing_gives t (length m.before) f (given-ok _ t is) (rw (view-is u t is) at e))

-- ---- and so of every call

abbrev pub seen_as : Seen → Told
seen_as s = record { says = says_as s.answer; records = some s.records }

pub record Are (h : List ℕ) (told : List Told) (k : Held) (ss : List Step) (t : Table) : Type 0 where
  pub seen : told ≡ map seen_as (observe h ss t)
  pub left : table_of (given_by k) ≡ some (final ss t)

-- a call on a table that obeys the rules, in either form
one-is : (h : List ℕ) (s : Step) (t : Table) (g : Given) (says : Result Said) (k : Held) → table_of g ≡ some t
    → Is says k t (outcome_of s.act g) → Are h (told h s says k) k (s ∷ []) t
unfolding observe final next result
one-is h s t g says k is i =
    let e : outcome_of s.act (handed s.form t) ≡ outcome_of s.act g =
    outcome-of s.act (handed s.form t) g (handed-same s.form t (given-ok g t is) ∙ sym is) in
    record {
      seen = split (is_of h s) (λ o. rw (o, i.said, i.left, e)) (λ o. rw o);
      left = rw e i.left;
    }

pub made_is : (h : List ℕ) (k : Held) (m : Made) (t : Table) → table_of (given_by k) ≡ some t → Promised k m
    → Are h (told_of h k m) (held_after k m) (steps_of m) t
unfolding told_of observe final
made_is h (as_stored s) (command m) t is p = one-is h _ t (stored s) _ _ is (command-is m s t is p)
made_is h (as_stored s) (run m) t is p = absurd p
made_is h (as_stored s) (withdrawing m) t is p = one-is h _ t (stored s) _ _ is (withdrawing-is m s t is p)
made_is h (as_stored s) (taking m) t is p = absurd p
made_is h (as_stored s) (load l) t is p = record { seen = refl; left = load_is l s t is p }
made_is h (as_stored s) (store m) t is p = absurd p
made_is h (by_value u) (command m) t is p = absurd p
made_is h (by_value u) (run m) t is p = one-is h _ t (value (view_table u)) _ _ is (run_is m u t is p)
made_is h (by_value u) (withdrawing m) t is p = absurd p
made_is h (by_value u) (taking m) t is p = one-is h _ t (value (view_table u)) _ _ is (taking-is m u t is p)
made_is h (by_value u) (load l) t is p = absurd p
made_is h (by_value u) (store m) t is p = record { seen = refl; left = store_is m u t is p }

-- ---- one after another

observe-append : (h : List ℕ) (a b : List Step) (t : Table) → observe h (a ++ b) t ≡ observe h a t ++ observe h b (final a t)
unfolding observe final
observe-append h [] b t = refl
observe-append h (s ∷ a) b t =
    let i = observe-append h a b (next s t) in
    split (is_of h s) (λ o. rw (o, i)) (λ o. rw (o, i))

final-append : (a b : List Step) (t : Table) → final (a ++ b) t ≡ final b (final a t)
unfolding final
final-append [] b t = refl
final-append (s ∷ a) b t = final-append a b (next s t)

pub calls_are : (h : List ℕ) (k : Held) (ms : List Made) (t : Table) → table_of (given_by k) ≡ some t → Calls k ms
    → Are h (told_to h k ms) (held_last k ms) (steps ms) t
unfolding told_to held_last steps observe final
calls_are h k [] t is c = record { seen = refl; left = is }
calls_are h k (m ∷ ms) t is (p, c) =
    let i = made_is h k m t is p in
    let a = calls_are h (held_after k m) ms (final (steps_of m) t) i.left c in
    record {
      seen =
          rw (i.seen, a.seen, observe-append h (steps_of m) (steps ms) t)
          (sym (map-append seen_as (observe h (steps_of m) t) (observe h (steps ms) (final (steps_of m) t))));
      left = a.left ∙ ap some (sym (final-append (steps_of m) (steps ms) t));
    }

pub separation_of_calls : SeparationOfCalls
separation_of_calls h j k a b ej ek ca cb c =
    let p = calls_are h j a [] ej ca in
    let q = calls_are h k b [] ek cb in
    let s = separation h (steps a) (steps b) c in
    record {
      told = p.seen ∙ ap (map seen_as) s.seen ∙ sym q.seen;
      records = rw (p.left, q.left, s.records);
    }
