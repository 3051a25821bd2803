-- A call by value: the call on the form that its table is put into has the same result, and the table left is the one that is read
-- again, with what the call leaves as its view.
-- Assumes nothing.
use mathlib.Core.Path.{◌≡◌, refl, sym, ap, ◌∙◌}
use mathlib.Core.Bool.{Bool, true}
use mathlib.Core.List.{List, []}
use mathlib.Core.Option.{none, some, get_or}
use Prim.Native.Nat.{ℕ, ◌≤◌}
use lib.ListN.{length, take}
use Rattle.std.specs.Prelude.{Ok, Err}
use Rattle.std.specs.Prelude as std
use Rattle.model.specs.Records as model
use Rattle.model.specs.Records.{max_stored, table_ok, encode, decode}
use Rattle.model.specs.Commands.{Lent, Call, Given, value, stored, table_of, refusals, perform, outcome, Result, refused, gave, on_gave, Effect, bytes_of, Outputs, outputs}
use Rattle.model.specs.Traces.{wrote, commands, outcome_of, left_by}
use Rattle.model.proofs.Basics.{impossible}
use Rattle.model.proofs.Kept.{kept}
use Rattle.fields.specs.declared.refusals.Refusal.{Refusal}
use Rattle.params.specs.Lent.{call}
use Rattle.authenticator.specs.Outcomes.{is_draft, Told, told, said, told_of, outputs_of, Ended, ended, ends}
use Rattle.authenticator.specs.declared.outcome.Gave.{Gave}
use Rattle.key_table.specs.Forms.{FormIs, loading}
use Rattle.key_table.specs.Views.{view_table, table_value}
use Rattle.key_table.specs.declared.records.Table.{Table}
use Rattle.by_value.specs.Runs as runs
use Rattle.by_value.proofs.LeftLaws.{written-fits, read_again, value-view}

-- ---- a result, by what is said of it

refused-is : (o : Result Effect) {n : ℕ} → refused n ≡ told_of o → o ≡ refused n
refused-is (refused i) e = cc
refused-is (gave f) e = impossible cc

pub record Effected (o : Result Effect) (d : Bool) (n m : ℕ) : Type 0 where
  pub effect : Effect
  pub is : o ≡ gave effect
  pub says : told d n m ≡ told (is_draft effect.answer) (length (bytes_of effect.answer)) (length (encode effect.left))

effected : (o : Result Effect) {d : Bool} {n m : ℕ} → gave (told d n m) ≡ told_of o → Effected o d n m
effected (refused i) e = impossible cc
effected (gave f) e = record { effect = f; is = refl; says = cc }

-- ---- a call

-- a call said x and left both outputs so, where the table output was lent with these bytes
pub record Called (c : Call) (g : Given) (x : std.Result Gave Refusal) (out out' left' : List ℕ) : Type 0 where
  pub lent : List ℕ
  pub result : said x ≡ told_of (outcome c g)
  pub after : outputs_of out' left' ≡ outputs (outcome c g) (outputs_of out lent)

-- a table output that is long enough is not looked at, nor in which form the table is handed
same_outcome : (s : List ℕ) (l : Lent) (n : ℕ) (t : model.Table) (form : List ℕ) → decode form ≡ table_of (value t)
    → outcome (call s l n (some max_stored)) (stored form) ≡ outcome (call s l n none) (value t)
unfolding outcome refusals perform table_of
same_outcome s l n t form e = rw e

-- the call on the form that a table was put into
pub called : {s : List ℕ} {l : Lent} {n : ℕ} {t : model.Table} {form : List ℕ} {k : ℕ} {x : std.Result Gave Refusal} {out out' left' : List ℕ}
    (lent : List ℕ) → FormIs t form k
    → ended x out' left' ≡ ends (outcome (call s l n (some max_stored)) (stored (take k form))) (outputs_of out lent)
    → Called (call s l n none) (value t) x out out' left'
unfolding ends
called {s} {l} {n} {t} {form} {k} {out = out} lent f p =
    let e = same_outcome s l n t (take k form) f.view in
    record {
      lent = lent;
      result = ap (λ (y : Ended). y.result) p ∙ ap told_of e;
      after = ap (λ (y : Ended). y.after) p ∙ ap (λ (o : Result Effect). outputs o (outputs_of out lent)) e;
    }

module _ {c : Call} {g : Given} {x : std.Result Gave Refusal} {out out' left' : List ℕ} (p : Called c g x out out' left') where
  response-is : out' ≡ (outputs (outcome c g) (outputs_of out p.lent)).response
  response-is = ap (λ (y : Outputs). y.response) p.after

  -- after a refusal the table is the one that came
  pub ends-refused : (t : Table) {r : Refusal} → x ≡ Err r
      → runs.ended (record { answered = Err r; table = t }) out' ≡ runs.ends (outcome c g) t out
  unfolding outputs runs.ends
  ends-refused t e =
      let k = refused-is (outcome c g) (sym (ap said e) ∙ p.result) in
      rw (response-is, k)

  -- else it is the one that is read again from its stored form
  module _ {a : Gave} (e : x ≡ Ok a) where
    pub done : Effected (outcome c g) a.draft a.response_len a.table_len
    done = effected (outcome c g) (sym (ap said e) ∙ p.result)

    abbrev left : model.Table
    left = done.effect.left

    left-ok : table_ok left ≡ true
    left-ok = kept c g done.effect done.is

    size_is : a.table_len ≡ length (encode left)
    size_is = ap (λ (y : Told). y.table) done.says

    pub left-fits : a.table_len ≤ max_stored
    left-fits = written-fits left left-ok size_is

    left-read : decode (take a.table_len left') ≡ some left
    unfolding outputs
    left-read =
        read_again left left-ok size_is p.lent
        (ap (λ (y : Outputs). get_or y.table []) p.after ∙ rw done.is)

    -- what is read again is a table
    pub left-loads : loading (decode (take a.table_len left')) ≡ Ok (table_value left)
    unfolding loading
    left-loads = rw left-read

    pub ends-left : (t : Table) {r : Table} → Ok r ≡ loading (decode (take a.table_len left'))
        → runs.ended (record { answered = Ok (record { draft = a.draft; len = a.response_len }); table = r }) out' ≡ runs.ends (outcome c g) t out
    unfolding outputs runs.ends
    ends-left t {r} q =
        let s : gave (record { draft = a.draft; length = a.response_len }) ≡ runs.size_of (gave done.effect) =
        ap (λ (y : Told). gave (record { draft = y.draft; length = y.response })) done.says in
        let v : r ≡ table_value left = let ok : Ok r ≡ Ok (table_value left) = q ∙ left-loads in cc in
        rw (response-is, v, done.is, s)

-- ---- the table handed back

-- its view is the table that the call leaves
pub left-view : (c : Call) (g : Given) (t : Table)
    → view_table (runs.table_left (on_gave (λ e. e.left) (outcome c g)) t) ≡ left_by (outcome_of (commands c) g) (view_table t)
left-view c g t = go (outcome c g) (kept c g)
  where
    go : (o : Result Effect) → ((e : Effect) → o ≡ gave e → table_ok e.left ≡ true)
        → view_table (runs.table_left (on_gave (λ e. e.left) o) t)
        ≡ left_by (on_gave (λ e. record { told = wrote e.answer; left = e.left }) o) (view_table t)
    go (refused n) h = refl
    go (gave e) h = value-view e.left (h e refl)
