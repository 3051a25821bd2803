-- Calls of the entries one after another, as a caller makes and sees them: `uaf_command` and `uaf_withdraw` on a stored table, `run` and `withdraw` on a
-- table by value, `load` and `store` from the one form to the other. Each is handed what the last one left.
use Rattle.std.specs.Prelude as std
use Rattle.std.specs.Prelude.{◌≡◌, ℕ, Bool, true, not, cond, List, [], ◌∷◌, ◌++◌, eqb, length, take, Ok, Err}
use Rattle.std.proofs.Math.Option.{Option, none, some, map}
use Rattle.model.specs.Lists as lists
use Rattle.model.specs.Records as model
use Rattle.model.specs.Records.{own, encode, decode}
use Rattle.model.specs.Commands.{Lent, Call, Given, value, stored, table_of, Result, refused, gave, on_gave, outcome}
use Rattle.model.specs.Withdrawals.{Withdrawal, withdraw}
use Rattle.model.specs.Traces.{Act, commands, withdraws, itself, in_stored_form, Form, Step, is_of, Comparable}
use Rattle.fields.specs.Refusals as written
use Rattle.fields.specs.Refusals.{number}
use Rattle.fields.specs.declared.refusals.Refusal.{Refusal}
use Rattle.params.specs.Lent as params
use Rattle.authenticator.specs.Withdrawing.{withdrawal}
use Rattle.key_table.specs.Views.{view_table}
use Rattle.key_table.specs.Forms.{loading, storing}
use Rattle.key_table.specs.declared.records.Table.{Table}
use Rattle.by_value.specs.Runs as runs
use Rattle.by_value.specs.declared.Answer.{Answer}
use Rattle.by_value.specs.declared.Ran.{Ran}
use Rattle.by_value.specs.Withdrew as withdrawals
use Rattle.by_value.specs.declared.withdraw.Withdrew.{Withdrew}
use Rattle.token.specs.Returned.{Returned, draft_number, returned}
use Rattle.token.specs.Written.{ReturnedBytes, returned_bytes}

-- ---- calls, each with what went into it but the table, and what came out of it

-- of `uaf_command`: the command, what is lent, and the numbers and outputs lent, before it and after it
pub record Commanding : Type 0 where
  pub command : List ℕ
  pub lent : Lent
  pub before : Returned
  pub after : Returned

-- of `run`: the command, what is lent, the response output before it and after it, and what it gave
pub record Running : Type 0 where
  pub command : List ℕ
  pub lent : Lent
  pub before : List ℕ
  pub after : List ℕ
  pub ran : Ran

-- of `store`: the output before it and after it, and what it gave
pub record Storing : Type 0 where
  pub before : List ℕ
  pub after : List ℕ
  pub written : std.Result ℕ Refusal

-- of `uaf_withdraw`: mixed token and KeyID, and the number and the output lent, before it and after it
pub record Withdrawing : Type 0 where
  pub mixed : List ℕ
  pub key_id : List ℕ
  pub before : ReturnedBytes
  pub after : ReturnedBytes

-- of `withdraw` on a table by value: mixed token and KeyID, and what it gave
pub record Taking : Type 0 where
  pub mixed : List ℕ
  pub key_id : List ℕ
  pub withdrew : Withdrew

pub data Made : Type 0 where
  command : Commanding → Made
  run : Running → Made
  withdrawing : Withdrawing → Made
  taking : Taking → Made
  load : std.Result Table Refusal → Made
  store : Storing → Made

-- the call of the definitions that it is
abbrev pub command_call : Commanding → Call
command_call m = params.call m.command m.lent (length m.before.response) (some (length m.before.table))

abbrev pub run_call : Running → Call
run_call m = params.call m.command m.lent (length m.before) none

abbrev pub withdrawing_of : Withdrawing → Withdrawal
withdrawing_of m = withdrawal m.mixed m.key_id (some (length m.before.output))

abbrev pub taking_of : Taking → Withdrawal
taking_of m = withdrawal m.mixed m.key_id none

-- and its step of a trace
abbrev pub command_step : Commanding → Step
command_step m = record { act = commands (command_call m); form = in_stored_form }

abbrev pub run_step : Running → Step
run_step m = record { act = commands (run_call m); form = itself }

abbrev pub withdrawing_step : Withdrawing → Step
withdrawing_step m = record { act = withdraws (withdrawing_of m); form = in_stored_form }

abbrev pub taking_step : Taking → Step
taking_step m = record { act = withdraws (taking_of m); form = itself }

-- ---- what is held between two calls

-- the table, "itself or in its stored form"
pub data Held : Type 0 where
  by_value : Table → Held
  as_stored : List ℕ → Held

abbrev pub given_by : Held → Given
given_by (by_value t) = value (view_table t)
given_by (as_stored s) = stored s

-- a call of an entry that is handed this promises this, and no entry is handed the form that it does not take
abbrev pub Promised : Held → Made → Type 0
Promised (as_stored s) (command m) = m.after ≡ returned (outcome (command_call m) (stored s)) m.before
Promised (as_stored s) (run m) = ⊥
Promised (as_stored s) (withdrawing m) = m.after ≡ returned_bytes (on_gave encode (withdraw (withdrawing_of m) (stored s))) m.before
Promised (as_stored s) (taking m) = ⊥
Promised (as_stored s) (load l) = l ≡ loading (decode s)
Promised (as_stored s) (store m) = ⊥
Promised (by_value t) (command m) = ⊥
Promised (by_value t) (run m) = runs.ended m.ran m.after ≡ runs.ends (outcome (run_call m) (value (view_table t))) t m.before
Promised (by_value t) (withdrawing m) = ⊥
Promised (by_value t) (taking m) = withdrawals.ended m.withdrew ≡ withdrawals.ends (withdraw (taking_of m) (value (view_table t))) t
Promised (by_value t) (load l) = ⊥
Promised (by_value t) (store m) = written.ended m.written m.after ≡ written.ends (storing (view_table t) (length m.before)) m.before

-- what is held then: "after a refusal that is the one the refused call was given"
abbrev pub after_storing : Held → List ℕ → std.Result ℕ Refusal → Held
after_storing k s (Err r) = k
after_storing k s (Ok n) = as_stored (take n s)

abbrev pub after_loading : Held → std.Result Table Refusal → Held
after_loading k (Err r) = k
after_loading k (Ok t) = by_value t

unfoldable pub held_after : Held → Made → Held
held_after k (command m) = cond (eqb m.after.code 0) (as_stored (take m.after.table_length m.after.table)) k
held_after k (run m) = by_value m.ran.table
held_after k (withdrawing m) = cond (eqb m.after.code 0) (as_stored (take m.after.size m.after.output)) k
held_after k (taking m) = by_value m.withdrew.table
held_after k (load l) = after_loading k l
held_after k (store m) = after_storing k m.after m.written

-- calls of which the first is handed this, and each later one what the last one left
abbrev pub Calls : Held → List Made → Type 0
Calls k [] = Unit {0}
Calls k (m ∷ ms) = Promised k m × Calls (held_after k m) ms

unfoldable pub held_last : Held → List Made → Held
held_last k [] = k
held_last k (m ∷ ms) = held_last (held_after k m) ms

-- the trace that they are; `load` and `store` are no commands
abbrev pub steps_of : Made → List Step
steps_of (command m) = command_step m ∷ []
steps_of (run m) = run_step m ∷ []
steps_of (withdrawing m) = withdrawing_step m ∷ []
steps_of (taking m) = taking_step m ∷ []
steps_of (load l) = []
steps_of (store m) = []

unfoldable pub steps : List Made → List Step
steps [] = []
steps (m ∷ ms) = steps_of m ++ steps ms

-- ---- what its holder sees of a call

-- of a command: 0 for a response and 1 for a draft, its length and its bytes; of a withdrawal that it is done
pub record Wrote : Type 0 where
  pub answer : ℕ
  pub size : ℕ
  pub bytes : List ℕ

pub data Said : Type 0 where
  wrote : Wrote → Said
  done : Said

-- the refusal's number, or that; and its own records in the table left
pub record Told : Type 0 where
  pub says : Result Said
  pub records : Option model.Table

-- by the number that an entry gives: 0, or a refusal
abbrev pub coded : ℕ → Said → Result Said
coded n x = cond (eqb n 0) (gave x) (refused n)

abbrev pub command_says : Returned → Result Said
command_says r =
    coded r.code (wrote (record { answer = r.answer; size = r.response_length; bytes = take r.response_length r.response }))

abbrev pub run_says : List ℕ → std.Result Answer Refusal → Result Said
run_says s (Err r) = refused (number r)
run_says s (Ok a) = gave (wrote (record { answer = draft_number a.draft; size = a.len; bytes = take a.len s }))

abbrev pub taking_says : std.Result (Unit {0}) Refusal → Result Said
taking_says (Err r) = refused (number r)
taking_says (Ok u) = gave done

abbrev pub records_in : List ℕ → Held → Option model.Table
records_in h k = map (own h) (table_of (given_by k))

-- h's own calls are told to h, and nothing else is; k: what is held after it
abbrev pub told : List ℕ → Step → Result Said → Held → List Told
told h s says k = cond (is_of h s) (record { says = says; records = records_in h k } ∷ []) []

unfoldable pub told_of : List ℕ → Held → Made → List Told
told_of h k (command m) = told h (command_step m) (command_says m.after) (held_after k (command m))
told_of h k (run m) = told h (run_step m) (run_says m.after m.ran.answered) (held_after k (run m))
told_of h k (withdrawing m) = told h (withdrawing_step m) (coded m.after.code done) (held_after k (withdrawing m))
told_of h k (taking m) = told h (taking_step m) (taking_says m.withdrew.done) (held_after k (taking m))
told_of h k (load l) = []
told_of h k (store m) = []

unfoldable pub told_to : List ℕ → Held → List Made → List Told
told_to h k [] = []
told_to h k (m ∷ ms) = told_of h k m ++ told_to h (held_after k m) ms

-- ---- demand 3 for these calls: the conditions are those of the traces that they are

-- "The first call is given the empty table"
abbrev pub Empty : Held → Type 0
Empty k = table_of (given_by k) ≡ some []

pub record SameTold (h : List ℕ) (j k : Held) (a b : List Made) : Type 0 where
  pub told : told_to h j a ≡ told_to h k b
  pub records : records_in h (held_last j a) ≡ records_in h (held_last k b)

abbrev pub SeparationOfCalls : Type 0
SeparationOfCalls =
    (h : List ℕ) (j k : Held) (a b : List Made) → Empty j → Empty k → Calls j a → Calls k b → Comparable h (steps a) (steps b)
    → SameTold h j k a b

-- ---- the combinations that an entry has: a table by value without a table output, a stored one with it

abbrev pub offers : Form → Option ℕ → Bool
offers itself o = not (lists.given o)
offers in_stored_form o = lists.given o

abbrev pub table_output_of : Act → Option ℕ
table_output_of (commands c) = c.table_output
table_output_of (withdraws w) = w.table_output

abbrev pub offered : Step → Bool
offered s = offers s.form (table_output_of s.act)

-- every trace of these combinations is that of some calls that keep the entries' promises (of lists of any numbers, as the definitions' are: bytes where
-- they are bytes), so that the conditions are met wherever such a trace meets them
abbrev pub EveryTrace : Type 0
EveryTrace =
    (k : Held) → Empty k → (ss : List Step) → lists.all offered ss ≡ true → (ms : List Made) × Calls k ms × (steps ms ≡ ss)
