-- The record of the four fields as they are stored.
use Rattle.key_table.proofs.forms.value_at.Goals as goal

pub returns : goal.returns
returns c =
    rw (c.record_of.ensures, c.key_of-key_id.ensures.0, c.mixed_of-mixed.ensures.0, c.name_of.ensures.0, c.count_of.ensures)
