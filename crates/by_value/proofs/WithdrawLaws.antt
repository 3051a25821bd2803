-- A withdrawal by value: the withdrawal on the form that its table is put into has the same result, and the table left is the one that is read again,
-- with what the withdrawal leaves as its view.
-- Assumes nothing.
use mathlib.Core.Path.{◌≡◌, refl, sym, ap, ◌∙◌}
use mathlib.Core.Bool.{true}
use mathlib.Core.List.{List}
use mathlib.Core.Option.{none, some}
use Prim.Native.Nat.{ℕ, ◌≤◌}
use lib.ListN.{length, take}
use Rattle.std.specs.Prelude.{Ok, Err}
use Rattle.std.specs.Prelude as std
use Rattle.model.specs.Records as model
use Rattle.model.specs.Records.{max_stored, table_ok, encode, decode}
use Rattle.model.specs.Commands.{Given, value, stored, table_of, Result, refused, gave, on_gave}
use Rattle.model.specs.Complete.{output_of}
use Rattle.model.specs.Traces.{done, withdraws, outcome_of, left_by}
use Rattle.model.specs.Withdrawals.{Withdrawal, withdraw_refusals, withdraw}
use Rattle.model.proofs.Basics.{impossible}
use Rattle.model.proofs.Kept.{withdraw_kept}
use Rattle.fields.specs.Refusals.{said, length_of, Ended, ended, ends}
use Rattle.fields.specs.declared.refusals.Refusal.{Refusal}
use Rattle.authenticator.specs.Withdrawing.{withdrawal}
use Rattle.key_table.specs.Forms.{FormIs, loading}
use Rattle.key_table.specs.Views.{view_table, table_value}
use Rattle.key_table.specs.declared.records.Table.{Table}
use Rattle.by_value.specs.Runs.{table_left}
use Rattle.by_value.specs.Withdrew as withdrew
use Rattle.by_value.proofs.LeftLaws.{written-fits, read_again, value-view}

-- ---- a result, by what is said of it

refused-is : (q : Result model.Table) {n : ℕ} → refused n ≡ length_of (on_gave encode q) → q ≡ refused n
refused-is (refused i) e = cc
refused-is (gave u) e = impossible cc

pub record Left (q : Result model.Table) (n : ℕ) : Type 0 where
  pub table : model.Table
  pub is : q ≡ gave table
  pub size : n ≡ length (encode table)

left_of : (q : Result model.Table) {n : ℕ} → gave n ≡ length_of (on_gave encode q) → Left q n
left_of (refused i) e = impossible cc
left_of (gave u) e = record { table = u; is = refl; size = cc }

-- ---- a withdrawal

-- a withdrawal said x and left its output so, where it was lent with these bytes
pub record Withdrawn (w : Withdrawal) (g : Given) (x : std.Result ℕ Refusal) (left' : List ℕ) : Type 0 where
  pub lent : List ℕ
  pub result : said x ≡ length_of (on_gave encode (withdraw w g))
  pub after : left' ≡ output_of (on_gave encode (withdraw w g)) lent

-- a table output that is long enough is not looked at, nor in which form the table is handed
same-withdrawal : (m k : List ℕ) (t : model.Table) (form : List ℕ) → decode form ≡ table_of (value t)
    → withdraw (withdrawal m k (some max_stored)) (stored form) ≡ withdraw (withdrawal m k none) (value t)
unfolding withdraw withdraw_refusals table_of
same-withdrawal m k t form e = rw e

-- the withdrawal on the form that a table was put into
pub withdrawn : {m k : List ℕ} {t : model.Table} {form : List ℕ} {n : ℕ} {x : std.Result ℕ Refusal} {left' : List ℕ} (lent : List ℕ) → FormIs t form n
    → ended x left' ≡ ends (on_gave encode (withdraw (withdrawal m k (some max_stored)) (stored (take n form)))) lent
    → Withdrawn (withdrawal m k none) (value t) x left'
unfolding ends
withdrawn {m} {k} {t} {form} {n} lent f p =
    let e = ap (on_gave encode) (same-withdrawal m k t (take n form) f.view) in
    record {
      lent = lent;
      result = ap (λ (y : Ended). y.result) p ∙ ap length_of e;
      after = ap (λ (y : Ended). y.output) p ∙ ap (λ (o : Result (List ℕ)). output_of o lent) e;
    }

module _ {w : Withdrawal} {g : Given} {x : std.Result ℕ Refusal} {left' : List ℕ} (p : Withdrawn w g x left') where
  -- after a refusal the table is the one that came
  pub withdrew_none : (t : Table) {r : Refusal} → x ≡ Err r → withdrew.ended (record { done = Err r; table = t }) ≡ withdrew.ends (withdraw w g) t
  withdrew_none t e = rw (refused-is (withdraw w g) (sym (ap said e) ∙ p.result))

  -- else it is the one that is read again from its stored form
  module _ {n : ℕ} (e : x ≡ Ok n) where
    pub left : Left (withdraw w g) n
    left = left_of (withdraw w g) (sym (ap said e) ∙ p.result)

    left-ok : table_ok left.table ≡ true
    left-ok = withdraw_kept w g left.table left.is

    pub left-fits : n ≤ max_stored
    left-fits = written-fits left.table left-ok left.size

    -- what is read again is a table
    pub left-loads : loading (decode (take n left')) ≡ Ok (table_value left.table)
    unfolding loading
    left-loads = rw (read_again left.table left-ok left.size p.lent (p.after ∙ rw left.is))

    pub withdrew-one : (t : Table) {r : Table} → Ok r ≡ loading (decode (take n left'))
        → withdrew.ended (record { done = Ok tt; table = r }) ≡ withdrew.ends (withdraw w g) t
    withdrew-one t {r} q =
        let v : r ≡ table_value left.table = let ok : Ok r ≡ Ok (table_value left.table) = q ∙ left-loads in cc in
        rw (v, left.is)

-- ---- the table handed back

-- its view is the table that the withdrawal leaves
pub withdrew-view : (w : Withdrawal) (g : Given) (t : Table)
    → view_table (table_left (withdraw w g) t) ≡ left_by (outcome_of (withdraws w) g) (view_table t)
withdrew-view w g t = go (withdraw w g) (withdraw_kept w g)
  where
    go : (q : Result model.Table) → ((u : model.Table) → q ≡ gave u → table_ok u ≡ true)
        → view_table (table_left q t) ≡ left_by (on_gave (λ u. record { told = done; left = u }) q) (view_table t)
    go (refused n) h = refl
    go (gave u) h = value-view u (h u refl)
