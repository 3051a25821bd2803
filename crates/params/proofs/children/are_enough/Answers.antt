-- All pairs in order is what the definition says of the two lists.
use mathlib.Core.Path.{◌∙◌}
use Rattle.std.proofs.Common.{ℕ, rules, tests, leb}
use Rattle.std.proofs.lemmas.Iterator.{YieldsList-from_slice, YieldsList-from_zip}
use Rattle.std.proofs.lemmas.Iterator.Search.{all_from_yields_List}
use Rattle.params.proofs.TimesLaws.{enough_all}
use Rattle.params.proofs.children.are_enough.Goals as goal

pub returns : goal.returns
returns c =
    let a = c.args in
    all_from_yields_List (λ (p : ℕ × ℕ). leb p.0 p.1) c.all.new.self _ _ c.all.ensures.ran
    (YieldsList-from_zip (YieldsList-from_slice a.least cc) (YieldsList-from_slice a.times cc)) (λ x b q k. search (rules, tests))
    ∙ enough_all a.least a.times
