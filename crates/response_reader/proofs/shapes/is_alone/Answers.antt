-- Of a status that OpenSettings cannot answer alone.
use borrow.Author.Rules.{rules}
use Rattle.response_reader.proofs.ShapeLaws.{alone_open_settings}
use Rattle.response_reader.proofs.shapes.is_alone.Goals as goal

pub returns-in_default-matches-4 : goal.returns-in_default-matches-4
returns-in_default-matches-4 c = alone_open_settings _ c.in-13830.is (search rules)
