-- `forms::field::text_of` meets its contract. Assumes nothing.
use Rattle.forms.specs.Field.{text_of}
use Rattle.forms.proofs.field.text_of.Goals as goal

pub returns : goal.returns
unfolding text_of
returns c = rw (← c.lead_of-n.ensures.0) c.first.ensures
