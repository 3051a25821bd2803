-- The table left, which is written into an output and read again from there.
-- Assumes nothing.
use mathlib.Core.Path.{◌≡◌, sym, ap, ◌∙◌}
use mathlib.Core.Bool.{true}
use mathlib.Core.List.{List}
use mathlib.Core.Option.{some}
use Prim.Native.Nat.{ℕ, ◌≤◌}
use native.Mathlib.Omega.{arith}
use lib.ListN.{length, take, drop}
use lib.Seq.{take_at}
use Rattle.model.specs.Records as model
use Rattle.model.specs.Records.{max_stored, table_ok, encode, decode}
use Rattle.model.specs.Commands.{over}
use Rattle.model.proofs.Rules.{tests}
use Rattle.model.proofs.StoredForm.{decode-encode, length-encode}
use Rattle.key_table.specs.Views.{view_table, table_value}
use Rattle.key_table.proofs.TidyLaws.{view_of_value}

module _ (t : model.Table) (ok : table_ok t ≡ true) where
  -- n is how many bytes were written
  module _ {n : ℕ} (size : n ≡ length (encode t)) where
    pub written-fits : n ≤ max_stored
    written-fits = omega (arith, size, length-encode t ok)

    pub read_again : (lent : List ℕ) {out : List ℕ} → out ≡ over (encode t) lent → decode (take n out) ≡ some t
    read_again lent e =
        let s : List ℕ = encode t in
        ap decode (ap (take n) e ∙ take_at s (drop (length s) lent) n (sym size)) ∙ decode-encode t ok

  -- and its value has it as its view
  pub value-view : view_table (table_value t) ≡ t
  value-view = let k = tests t ok in view_of_value t k.few k.each
