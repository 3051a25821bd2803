-- By how it starts, and by what follows the status.
use mathlib.Core.Path.{◌∙◌}
use Rattle.response_reader.proofs.SignedLaws.{is_shape_of}
use Rattle.response_reader.proofs.shapes.is_response.Goals as goal

pub returns-in-Some-Longer : goal.returns-in-Some-Longer
returns-in-Some-Longer c = c.is_some.ensures ∙ is_shape_of _ c.shape_with.ensures
