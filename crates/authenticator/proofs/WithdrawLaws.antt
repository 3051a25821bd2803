-- What the code of a withdrawal needs to know: its lengths, what it finds of the record, and what is written of the table left.
-- Assumes nothing.
use mathlib.Core.Path.{◌≡◌, refl, ap, ◌∙◌}
use mathlib.Core.Bool.{Bool, true, false, cond, ◌&&◌}
use mathlib.Core.List.{List, [], ◌∷◌}
use mathlib.Core.Option.{some, get_or}
use Prim.Native.Nat.{ℕ, ◌≤◌, ◌<◌}
use native.Mathlib.Omega.{arith}
use lib.ListN.{length}
use Rattle.std.specs.Prelude.{Err}
use Rattle.model.specs.Tlv.{fits, key_id, mixed_token}
use Rattle.model.specs.Records.{Table, own, max_stored, encode}
use Rattle.model.specs.Commands.{check, judge, refused, gave, Given, table_of, on_gave, remove, apply}
use Rattle.model.specs.Withdrawals.{Withdrawal, withdrawal_checks, withdraw}
use Rattle.model.proofs.Basics.{clash}
use Rattle.model.proofs.WithdrawalLaws.{withdraw-short, both_fit, fit_both, withdraw-wrongly, withdraw-looks}
use Rattle.fields.specs.Refusals.{ended, ends}
use Rattle.fields.specs.declared.refusals.Refusal.TheVariants.{ShortOutput}
use Rattle.fields.proofs.RefusalLaws.{ends-refused}
use Rattle.stored_table.specs.Changes.{removal}
use Rattle.stored_table.specs.Newest.{withdrawable}
use Rattle.authenticator.specs.Withdrawing.{withdrawal}

-- refusal 1 as it is told, with the output as it came
pub short_told : (m k out : List ℕ) (g : Given) → length out < max_stored
    → ended (Err ShortOutput) out ≡ ends (on_gave encode (withdraw (withdrawal m k (some (length out))) g)) out
short_told m k out g h = ends-refused ShortOutput (ap (on_gave encode) (withdraw-short _ g h))

-- three checks that say the same
says_once : {A : Type 0} (n : ℕ) (says : ℕ → A) (passed : A) (a b c : Bool) → let cs = check n a ∷ check n b ∷ check n c ∷ [] in
    judge cs says passed ≡ cond (judge cs (λ m. false) true) passed (says n)
unfolding judge
says_once n says passed true b c = refl
says_once n says passed false true c = refl
says_once n says passed false false true = refl
says_once n says passed false false false = refl

-- past the other refusals there is the table left, or 7
by_newest : {A : Type 0} (k : List ℕ) (mine : Table) (says : ℕ → A) (passed : A)
    → judge (withdrawal_checks k mine) says passed ≡ cond (withdrawable k mine) passed (says 7)
unfolding withdrawable
by_newest k mine says passed = says_once 7 says passed _ _ _

one_removed : (k : List ℕ) → length k ≡ 32 → removal k ≡ remove k
one_removed [] h = absurd (omega arith)
one_removed (x ∷ k) h = refl

-- both lengths, as they are tested one after the other
pub not-sized : (m k : List ℕ) {a : Bool} → a ≡ fits mixed_token m → a ≡ false → false ≡ (fits mixed_token m && fits key_id k)
not-sized m k e f = rw (← e, f)

pub both_sized : (m k : List ℕ) {a b : Bool} → a ≡ fits mixed_token m → a ≡ true → b ≡ fits key_id k → b ≡ (fits mixed_token m && fits key_id k)
both_sized m k e f g = rw (← e, f) g

module _ (w : Withdrawal) (g : Given) (room : max_stored ≤ get_or w.table_output max_stored) (t : Table) (read : table_of g ≡ some t) where
  pub wrongly_sized : (fits mixed_token w.mixed && fits key_id w.key_id) ≡ false → withdraw w g ≡ refused 4
  wrongly_sized e = withdraw-wrongly w g room t read (λ n. clash (both_fit w n) e)

  module _ (sized : (fits mixed_token w.mixed && fits key_id w.key_id) ≡ true) where
    by-record : withdraw w g
        ≡ cond (withdrawable w.key_id (own w.mixed t)) (gave (apply w.mixed (remove w.key_id) t)) (refused 7)
    by-record = withdraw-looks w g room t read (fit_both w sized) ∙ by_newest w.key_id (own w.mixed t) refused _

    -- b: what was found of the record
    module _ {b : Bool} (e : b ≡ withdrawable w.key_id (own w.mixed t)) where
      pub not-withdrawable : b ≡ false → withdraw w g ≡ refused 7
      not-withdrawable f = by-record ∙ rw (← e, f)

      -- a KeyID of 32 bytes is not empty, so the removal is of one record
      pub withdraws : b ≡ true → withdraw w g ≡ gave (apply w.mixed (removal w.key_id) t)
      withdraws f = by-record ∙ rw (← e, f, one_removed w.key_id (fit_both w sized).key-id)
