-- By how it starts, and by what follows the status.
use mathlib.Core.Path.{ap, ◌∙◌}
use Rattle.std.specs.Prelude.{Some}
use Rattle.response_reader.proofs.SignedLaws.{shape_no, opening-alone}
use Rattle.response_reader.proofs.shapes.shape_of.Goals as goal

pub returns-in_err-opening_of : goal.returns-in_err-opening_of
returns-in_err-opening_of c = c.from_residual.ensures ∙ shape_no _ c.in_err-opening_of.ensures

pub returns-in-Alone : goal.returns-in-Alone
returns-in-Alone c = (opening-alone _ c.in_ok-opening_of.ensures (ap Some c.in-Alone.is)).1
