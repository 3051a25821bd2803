-- The record that is stored has the first bytes of the array as its name.
use mathlib.Core.Path.{◌≡◌}
use native.Mathlib.Omega.{arith}
use lib.ListN.{length}
use borrow.Author.Rules.{rules}
use Rattle.key_table.proofs.StoreLaws.{wrote_value}
use Rattle.key_table.proofs.forms.put_value.Goals as goal

pub returns : goal.returns
returns c =
    let size : length c.args.r.now.name ≡ 128 = search rules in
    wrote_value c.args.r.now (omega arith) c.name.ensures c.put_record.ensures
