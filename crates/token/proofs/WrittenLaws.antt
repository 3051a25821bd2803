-- What an entry with one output returns, from what the function below it said and left.
-- Assumes nothing.
use mathlib.Core.Path.{◌≡◌, ap}
use mathlib.Core.List.{List}
use Prim.Native.Nat.{ℕ}
use lib.ListN.{length}
use Rattle.std.specs.Prelude.{Result, Ok, Err}
use Rattle.model.specs.Commands as model
use Rattle.model.specs.Commands.{refused, gave}
use Rattle.model.proofs.Basics.{impossible}
use Rattle.fields.specs.Refusals.{number, Ended, ended, ends}
use Rattle.fields.specs.declared.refusals.Refusal.{Refusal}
use Rattle.token.specs.Written.{wrote, returned_bytes, code_of, length_after}

module _ (out : List ℕ) {out' : List ℕ} (len : ℕ) where
  -- the number of a refusal, or a length
  tells : (done : Result ℕ Refusal) (q : model.Result (List ℕ)) → ended done out' ≡ ends q out
      → wrote (code_of done) (length_after done len) out' ≡ returned_bytes q (wrote 0 len out)
  unfolding ends returned_bytes
  tells (Err x) (refused m) e =
      let r = ap (λ (x : Ended). x.result) e in
      let o = ap (λ (x : Ended). x.output) e in
      let k : number x ≡ m = cc in
      rw (k, o)
  tells (Err x) (gave s) e =
      let r = ap (λ (x : Ended). x.result) e in
      impossible cc
  tells (Ok n) (refused m) e =
      let r = ap (λ (x : Ended). x.result) e in
      impossible cc
  tells (Ok n) (gave s) e =
      let r = ap (λ (x : Ended). x.result) e in
      let o = ap (λ (x : Ended). x.output) e in
      let k : n ≡ length s = cc in
      rw (k, o)

  pub returns_told : {r len' : ℕ} (done : Result ℕ Refusal) (q : model.Result (List ℕ)) → ended done out' ≡ ends q out
      → (r ≡ code_of done) × (len' ≡ length_after done len) → wrote r len' out' ≡ returned_bytes q (wrote 0 len out)
  returns_told done q e t = rw (t.0, t.1) (tells done q e)
