-- Every trace of the combinations that an entry has is that of some calls: what the entries promise can be met wherever they are called, and the
-- table can be turned from the one form into the other between any two commands.
-- Assumes nothing.
use mathlib.Core.Path.{◌≡◌, refl, ap, ◌∙◌}
use mathlib.Core.Bool.{true, cond}
use mathlib.Core.List.{List, [], ◌∷◌, ◌++◌}
use mathlib.Core.Option.{Option, none, some}
use Prim.Native.Nat.{ℕ}
use lib.Dec.{eqb}
use lib.ListN.{length, replicate, length-replicate}
use Rattle.std.specs.Prelude as std
use Rattle.std.specs.Prelude.{Ok, Err}
use Rattle.model.specs.Lists.{all}
use Rattle.model.specs.Records.{Table, max_stored, encode, decode}
use Rattle.model.specs.Commands.{Call, value, stored, table_of, Result, refused, gave, on_gave, Given, Effect, Check, judge, refusals, outcome, over, outputs}
use Rattle.model.specs.Withdrawals.{Withdrawal, withdraw_refusals, withdraw}
use Rattle.model.specs.Traces.{Act, commands, withdraws, Form, itself, in_stored_form, Step, final}
use Rattle.model.proofs.Basics.{and_left, and_right, clash, impossible, split}
use Rattle.model.proofs.Kept.{given-ok}
use Rattle.fields.specs.Refusals as written
use Rattle.fields.specs.Refusals.{number}
use Rattle.fields.specs.declared.refusals.Refusal.{Refusal}
use Rattle.fields.specs.declared.refusals.Refusal.TheVariants.{ShortOutput, BrokenTable, NoCommand, WrongLent, NotWritten, BadField, NotWithdrawable}
use Rattle.params.specs.Lent as params
use Rattle.key_table.specs.Views.{view_table, table_value}
use Rattle.key_table.specs.Forms.{loading, storing}
use Rattle.key_table.specs.declared.records.Table as tables
use Rattle.by_value.specs.Runs as runs
use Rattle.by_value.specs.declared.Answer.{Answer}
use Rattle.authenticator.specs.Withdrawing.{withdrawal}
use Rattle.by_value.specs.Withdrew as withdrawals
use Rattle.token.specs.Returned.{gets, returned}
use Rattle.token.specs.Written.{wrote, returned_bytes}
use Rattle.separation.specs.Calls.{Commanding, Running, Withdrawing, Taking, Storing, Made, command, run, withdrawing, taking, load, store, Held, by_value, as_stored, given_by, Promised, held_after, Calls, steps_of, steps, offers, table_output_of, offered, EveryTrace}
use Rattle.separation.proofs.SeparationOfCalls.{view-is, made_is}

-- ---- a call that keeps an entry's promise, whatever is held

-- an output of n bytes
abbrev zeros : ℕ → List ℕ
zeros n = replicate n 0

zeros_long : (n : ℕ) → length (zeros n) ≡ n
zeros_long n = length-replicate n 0

-- the refusal that has a number
abbrev named : ℕ → Refusal
named n =
    cond (eqb n 1) ShortOutput
    (cond (eqb n 2) BrokenTable
    (cond (eqb n 3) NoCommand
    (cond (eqb n 4) WrongLent (cond (eqb n 5) NotWritten (cond (eqb n 6) BadField NotWithdrawable)))))

-- each check has the number of a refusal
abbrev Named : List Check → Type 0
Named [] = Unit {0}
Named (c ∷ cs) = (number (named c.says) ≡ c.says) × Named cs

judged_named : {A : Type 0} (cs : List Check) (x : A) → Named cs → (n : ℕ) → judge cs refused (gave x) ≡ refused n → number (named n) ≡ n
unfolding judge
judged_named [] x h n e = impossible cc
judged_named (c ∷ cs) x h n e =
    split c.fails
    (λ f. let i : refused c.says ≡ refused n = rw f at e in let z : n ≡ c.says = cc in rw z h.0)
    (λ f. judged_named cs x h.1 n (rw f at e))

-- so a call is refused by a number that a refusal has, and so is a withdrawal
call_named : (c : Call) (g : Given) (n : ℕ) → outcome c g ≡ refused n → number (named n) ≡ n
unfolding outcome refusals
call_named c g n e = judged_named (refusals c g) _ (refl, (refl, (refl, (refl, tt)))) n e

withdrawal_named : (w : Withdrawal) (g : Given) (n : ℕ) → withdraw w g ≡ refused n → number (named n) ≡ n
unfolding withdraw withdraw_refusals
withdrawal_named w g n e = judged_named (withdraw_refusals w g) _ (refl, (refl, (refl, (refl, (refl, (refl, tt)))))) n e

-- what a call by value says of a result of the model, which says that result
abbrev saying : Result runs.Size → std.Result Answer Refusal
saying (refused n) = Err (named n)
saying (gave z) = Ok (record { draft = z.draft; len = z.length })

said_back : (o : Result Effect) → ((n : ℕ) → o ≡ refused n → number (named n) ≡ n) → runs.said (saying (runs.size_of o)) ≡ runs.size_of o
said_back (refused n) h = ap refused (h n refl)
said_back (gave e) h = refl

-- and a withdrawal by value
abbrev taken : Result Table → std.Result (Unit {0}) Refusal
taken (refused n) = Err (named n)
taken (gave t) = Ok tt

taken_back : (r : Result Table) → ((n : ℕ) → r ≡ refused n → number (named n) ≡ n) → withdrawals.said (taken r) ≡ on_gave (λ t. tt) r
taken_back (refused n) h = ap refused (h n refl)
taken_back (gave t) h = refl

-- the call of a step, with outputs of its lengths
abbrev commanding : List ℕ → Call → ℕ → Commanding
commanding s c n =
    let lent = gets 0 0 0 0 (zeros c.output) (zeros n) in
    record {
      command = c.command;
      lent = c.lent;
      before = lent;
      after = returned (outcome (params.call c.command c.lent (length (zeros c.output)) (some (length (zeros n)))) (stored s)) lent;
    }

abbrev running : tables.Table → Call → Running
running u c =
    let o = outcome (params.call c.command c.lent (length (zeros c.output)) none) (value (view_table u)) in
    record {
      command = c.command;
      lent = c.lent;
      before = zeros c.output;
      after = (outputs o (record { response = zeros c.output; table = none })).response;
      ran = record { answered = saying (runs.size_of o); table = runs.table_left (on_gave (λ e. e.left) o) u };
    }

runs_so : (u : tables.Table) (c : Call) → Promised (by_value u) (run (running u c))
unfolding runs.ends
runs_so u c =
    let call = params.call c.command c.lent (length (zeros c.output)) none in
    rw (said_back (outcome call (value (view_table u))) (call_named call (value (view_table u))))

-- a withdrawal, with an output of this length, and by value
abbrev withdrawing_as : List ℕ → Withdrawal → ℕ → Withdrawing
withdrawing_as s w n =
    let lent = wrote 0 0 (zeros n) in
    record {
      mixed = w.mixed;
      key_id = w.key_id;
      before = lent;
      after = returned_bytes (on_gave encode (withdraw (withdrawal w.mixed w.key_id (some (length (zeros n)))) (stored s))) lent;
    }

abbrev taking_as : tables.Table → Withdrawal → Taking
taking_as u w =
    record {
      mixed = w.mixed;
      key_id = w.key_id;
      withdrew =
          let r = withdraw (withdrawal w.mixed w.key_id none) (value (view_table u)) in
          record { done = taken r; table = runs.table_left r u };
    }

-- a call on a table by value, and on a stored one
abbrev by_value_made : tables.Table → Act → Made
by_value_made u (commands c) = run (running u c)
by_value_made u (withdraws w) = taking (taking_as u w)

abbrev stored_made : List ℕ → Act → ℕ → Made
stored_made s (commands c) n = command (commanding s c n)
stored_made s (withdraws w) n = withdrawing (withdrawing_as s w n)

by_value_promised : (u : tables.Table) (a : Act) → Promised (by_value u) (by_value_made u a)
by_value_promised u (commands c) = runs_so u c
by_value_promised u (withdraws w) =
    let taking = withdrawal w.mixed w.key_id none in
    rw (taken_back (withdraw taking (value (view_table u))) (withdrawal_named taking (value (view_table u))))

stored_promised : (s : List ℕ) (a : Act) (n : ℕ) → Promised (as_stored s) (stored_made s a n)
stored_promised s (commands c) n = refl
stored_promised s (withdraws w) n = refl

-- the step that it is
by_value-step : (u : tables.Table) (a : Act) → table_output_of a ≡ none → steps_of (by_value_made u a) ≡ record { act = a; form = itself } ∷ []
by_value-step u (commands c) o = rw (zeros_long c.output, ← o)
by_value-step u (withdraws w) o = rw (← o)

stored-step : (s : List ℕ) (a : Act) (n : ℕ) → table_output_of a ≡ some n → steps_of (stored_made s a n) ≡ record { act = a; form = in_stored_form } ∷ []
stored-step s (commands c) n o = rw (zeros_long c.output, zeros_long n, ← o)
stored-step s (withdraws w) n o = rw (zeros_long n, ← o)

-- ---- from the one form to the other

loads_so : (s : List ℕ) (t : Table) → table_of (stored s) ≡ some t
    → Promised (as_stored s) (load (Ok (table_value t)))
unfolding loading table_of
loads_so s t is = let d : decode s ≡ some t = is in rw d

abbrev storing_all : Table → Storing
storing_all t =
    record { before = zeros max_stored; after = over (encode t) (zeros max_stored); written = Ok (length (encode t)) }

stores_so : (u : tables.Table) (t : Table) → table_of (value (view_table u)) ≡ some t → Promised (by_value u) (store (storing_all t))
unfolding storing written.ends judge
stores_so u t is = rw (view-is u t is, given-ok _ t is)

-- ---- one call after another

abbrev Rest : Held → List Step → Type 0
Rest k ss = (ms : List Made) × Calls k ms × (steps ms ≡ ss)

abbrev Good : Held → Table → Type 0
Good k t = table_of (given_by k) ≡ some t

-- calls that begin with one of these steps
after : (k : Held) (m : Made) {xs ss : List Step} → Promised k m → steps_of m ≡ xs → Rest (held_after k m) ss → Rest k (xs ++ ss)
unfolding steps
after k m p e (ms, c, q) = (m ∷ ms, (p, c), cc (e, q))

module _ (x : Step) (ss : List Step) (rest : (k : Held) (t : Table) → Good k t → Rest k ss) where
  value_held : (u : tables.Table) (t : Table) → Good (by_value u) t → x.form ≡ itself → table_output_of x.act ≡ none → Rest (by_value u) (x ∷ ss)
  value_held u t is f o =
      let m = by_value_made u x.act in
      let p = by_value_promised u x.act in
      let e : steps_of m ≡ x ∷ [] = by_value-step u x.act o ∙ rw (← f) in
      after (by_value u) m p e (rest _ _ (made_is [] (by_value u) m t is p).left)

  stored_held : (s : List ℕ) (t : Table) (n : ℕ) → Good (as_stored s) t → x.form ≡ in_stored_form → table_output_of x.act ≡ some n
      → Rest (as_stored s) (x ∷ ss)
  stored_held s t n is f o =
      let m = stored_made s x.act n in
      let p = stored_promised s x.act n in
      let e : steps_of m ≡ x ∷ [] = stored-step s x.act n o ∙ rw (← f) in
      after (as_stored s) m p e (rest _ _ (made_is [] (as_stored s) m t is p).left)

  on_value : (k : Held) (t : Table) → Good k t → x.form ≡ itself → table_output_of x.act ≡ none → Rest k (x ∷ ss)
  unfolding held_after final
  on_value (by_value u) t is f o = value_held u t is f o
  on_value (as_stored s) t is f o =
      let m = load (Ok (table_value t)) in
      let p = loads_so s t is in
      after (as_stored s) m p refl (value_held (table_value t) t (made_is [] (as_stored s) m t is p).left f o)

  on_stored : (k : Held) (t : Table) (n : ℕ) → Good k t → x.form ≡ in_stored_form → table_output_of x.act ≡ some n → Rest k (x ∷ ss)
  unfolding held_after final
  on_stored (as_stored s) t n is f o = stored_held s t n is f o
  on_stored (by_value u) t n is f o =
      let m = store (storing_all t) in
      let p = stores_so u t is in
      after (by_value u) m p refl (stored_held _ t n (made_is [] (by_value u) m t is p).left f o)

  by_entry : (k : Held) (t : Table) → Good k t → (f : Form) (o : Option ℕ) → x.form ≡ f → table_output_of x.act ≡ o → offers f o ≡ true
      → Rest k (x ∷ ss)
  by_entry k t is itself none p q e = on_value k t is p q
  by_entry k t is itself (some n) p q e = clash e refl
  by_entry k t is in_stored_form none p q e = clash e refl
  by_entry k t is in_stored_form (some n) p q e = on_stored k t n is p q

every : (ss : List Step) → all offered ss ≡ true → (k : Held) (t : Table) → Good k t → Rest k ss
unfolding steps
every [] e k t is = ([], tt, refl)
every (x ∷ ss) e k t is =
    by_entry x ss (every ss (and_right (offered x) _ e)) k t is x.form (table_output_of x.act) refl refl (and_left (offered x) _ e)

pub every_trace : EveryTrace
every_trace k is ss e = every ss e k [] is
