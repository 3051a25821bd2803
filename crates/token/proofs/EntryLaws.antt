-- What the C entry returns, from what the call said and left.
-- Assumes nothing.
use mathlib.Core.Path.{◌≡◌, refl, sym, ap, ◌∙◌}
use mathlib.Core.List.{List, []}
use mathlib.Core.Option.{Option, some, get_or}
use Prim.Native.Nat.{ℕ}
use lib.ListN.{length}
use Rattle.std.specs.Prelude as std
use Rattle.std.specs.Prelude.{Ok, Err}
use Rattle.model.specs.Records.{encode}
use Rattle.model.specs.Commands as model
use Rattle.model.specs.Commands.{Result, refused, gave, Effect, outputs, bytes_of}
use Rattle.model.proofs.Basics.{impossible}
use Rattle.fields.specs.Refusals.{number}
use Rattle.fields.specs.declared.refusals.Refusal.{Refusal}
use Rattle.authenticator.specs.Outcomes.{Told, told, is_draft, said, outputs_of, Ended, ended, ends}
use Rattle.authenticator.specs.declared.outcome.Gave.{Gave}
use Rattle.token.specs.Returned.{gets, answer_number, draft_number, returned}

-- the number of an answer is that of what is said of it
pub number_is : (a : model.Answer) → draft_number (is_draft a) ≡ answer_number a
number_is (model.response s) = refl
number_is (model.draft s) = refl

-- r: what the call said, of which o is what it gives by the definition; out and tab: its outputs before it
module _ {r : std.Result Gave Refusal} (out tab : List ℕ) {out' tab' : List ℕ} (a l m : ℕ) where
  pub entry_refuses : (o : Result Effect) {n : ℕ} (x : Refusal) → ended r out' tab' ≡ ends o (outputs_of out tab) → r ≡ Err x → n ≡ number x
      → gets n a l m out' tab' ≡ returned o (gets 0 a l m out tab)
  unfolding ends outputs returned
  entry_refuses (refused k) {n} x p e f =
      let s : refused (number x) ≡ refused k = sym (ap said e) ∙ ap (λ (y : Ended). y.result) p in
      let i : n ≡ k = cc (f, s) in
      let u : out' ≡ out = ap (λ (y : Ended). y.after.response) p in
      let v : some tab' ≡ some tab = ap (λ (y : Ended). y.after.table) p in
      let w : tab' ≡ tab = cc in
      rw (i, u, w)
  entry_refuses (gave y) x p e f =
      let s = sym (ap said e) ∙ ap (λ (y : Ended). y.result) p in impossible cc

  pub entry_gives : (o : Result Effect) (g : Gave) (b : ℕ) → ended r out' tab' ≡ ends o (outputs_of out tab) → r ≡ Ok g → b ≡ draft_number g.draft
      → gets 0 b g.response_len g.table_len out' tab' ≡ returned o (gets 0 a l m out tab)
  unfolding ends outputs returned
  entry_gives (refused j) g b p e f =
      let s = sym (ap said e) ∙ ap (λ (y : Ended). y.result) p in impossible cc
  entry_gives (gave y) g b p e f =
      let s : gave (told g.draft g.response_len g.table_len) ≡ gave (told (is_draft y.answer) (length (bytes_of y.answer)) (length (encode y.left))) =
      sym (ap said e) ∙ ap (λ (y : Ended). y.result) p in
      let q : told g.draft g.response_len g.table_len ≡ told (is_draft y.answer) (length (bytes_of y.answer)) (length (encode y.left)) = cc in
      let u = ap (λ (y : Ended). y.after.response) p in
      let v = ap (λ (y : Ended). y.after.table) p in
      let w = ap (λ (t : Option (List ℕ)). get_or t []) v in
      rw (f, ap (λ (z : Told). z.draft) q, number_is y.answer, ap (λ (z : Told). z.response) q, ap (λ (z : Told). z.table) q, u, w)
