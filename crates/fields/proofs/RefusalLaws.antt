-- What a function with one output says and leaves, by the model's result.
-- Assumes nothing.
use mathlib.Core.Path.{◌≡◌}
use mathlib.Core.List.{List}
use Prim.Native.Nat.{ℕ}
use Rattle.std.specs.Prelude.{Ok, Err}
use Rattle.model.specs.Commands.{Result, refused, gave}
use Rattle.tlv.specs.Writing.{Wrote}
use Rattle.tlv.proofs.WriteLaws.{front}
use Rattle.fields.specs.Refusals.{number, ended, ends}
use Rattle.fields.specs.declared.refusals.Refusal.{Refusal}

pub ends-refused : (r : Refusal) {o : Result (List ℕ)} {out : List ℕ} → o ≡ refused (number r) → ended (Err r) out ≡ ends o out
unfolding ends
ends-refused r e = rw e

pub ends-wrote : {o : Result (List ℕ)} {out out' s : List ℕ} {n r : ℕ} → o ≡ gave s → Wrote out 0 s n out' r
    → ended (Ok r) out' ≡ ends o out
unfolding ends
ends-wrote e w = rw (e, w.size, (front w).0, (front w).1)
