-- `forms::field::is_field` meets its contract. Assumes nothing.
use Rattle.octets.proofs.LentLaws.{held}
use Rattle.forms.specs.Field.{text_of, is_field}
use Rattle.forms.proofs.field.is_field.Goals as goal

pub returns : goal.returns
unfolding text_of is_field
returns c = rw (← c.lead_of-n.ensures.0, ← (held c.first-text.ensures), ← (held c.from-behind.ensures), c.all_zero.ensures, c.is_formed.ensures)
