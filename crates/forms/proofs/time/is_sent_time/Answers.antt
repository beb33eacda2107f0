-- `forms::time::is_sent_time` meets its contract. Assumes nothing.
use Rattle.forms.specs.Time.{sent_time}
use Rattle.forms.proofs.time.is_sent_time.Goals as goal

pub returns : goal.returns
unfolding sent_time
returns c = c.is_time.ensures
