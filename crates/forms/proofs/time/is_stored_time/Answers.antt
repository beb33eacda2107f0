-- `forms::time::is_stored_time` meets its contract. Assumes nothing.
use Rattle.forms.specs.Time.{stored_time}
use Rattle.forms.proofs.time.is_stored_time.Goals as goal

pub returns : goal.returns
unfolding stored_time
returns c = c.is_time.ensures
