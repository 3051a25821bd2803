-- The library's walk asks the test of each length.
use mathlib.Core.Path.{◌∙◌}
use Rattle.std.proofs.Common.{rules, eqb, tests}
use Rattle.std.proofs.lemmas.Iterator.{YieldsList-from_slice}
use Rattle.std.proofs.lemmas.Iterator.Search.{all_from_yields_List}
use Rattle.command_writer.proofs.HandleLaws.{whole-all}
use Rattle.command_writer.proofs.lengths.are_whole.Goals as goal

pub returns : goal.returns
returns c =
    all_from_yields_List (λ n. eqb n 32) _ _ _ c.all.ensures.ran (YieldsList-from_slice c.args.sizes.now cc) (λ x b q k. search (rules, tests))
    ∙ whole-all c.args.sizes.now
