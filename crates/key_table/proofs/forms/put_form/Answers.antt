-- One byte for a table that breaks a rule of its records, else its stored form.
use mathlib.Core.Path.{sym, ◌∙◌}
use borrow.Author.Rules.{rules}
use Rattle.key_table.proofs.StoreLaws.{form-broken, form-stored}
use Rattle.key_table.proofs.forms.put_form.Goals as goal

pub returns-then-not-records_ok : goal.returns-then-not-records_ok
returns-then-not-records_ok c =
    form-broken _ c.records_ok.ensures (c.if-not-records_ok.true) c.put8.ensures

pub put_table-requires : goal.put_table-requires
put_table-requires c = record { t_value = sym c.records_ok.ensures ∙ c.if-not-records_ok.false; max_stored_in_bounds = search rules }

pub returns : goal.returns
returns c =
    form-stored _ c.records_ok.ensures (c.if-not-records_ok.false) c.put_table.ensures
