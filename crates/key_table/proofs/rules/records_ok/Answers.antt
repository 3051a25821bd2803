-- At most 32 records, each as it is tested.
use mathlib.Core.Path.{◌≡◌, ap, ◌∙◌}
use native.Mathlib.Omega.{arith}
use lib.ListN.{length}
use Rattle.std.proofs.Common.{rules, tests}
use Rattle.std.proofs.lemmas.Iterator.{YieldsList-from_slice}
use Rattle.std.proofs.lemmas.Iterator.Search.{all_from_yields_List}
use Rattle.std.specs.List.{list_all}
use Rattle.model.specs.Records.{record_ok}
use Rattle.key_table.specs.Views.{view_record}
use Rattle.key_table.proofs.RuleLaws.{few_obey}
use Rattle.key_table.proofs.rules.records_ok.Goals as goal
use Rattle.key_table.proofs.rules.records_ok.Goals.{Start}

pub returns : goal.returns
returns c =
    let t = c.args.t in
    let size : length t.records ≡ 32 = (goal.at.returns c).Start.well_formed.0.1.1.0.1.0.1 in
    let each = all_from_yields_List (λ r. record_ok (view_record r)) _ _ _ c.all.ensures.ran (YieldsList-from_slice c.held.result.now cc) (λ x b q k. search (rules, tests)) in
    each ∙ ap (list_all _) c.held.ensures ∙ few_obey t (omega arith) (omega arith)
