-- `source::find_known` meets its contract. Assumes nothing.
use Rattle.source.specs.Source.{known}
use Rattle.source.proofs.find_known.Goals as goal

pub returns-in-None : goal.returns-in-None
unfolding known
returns-in-None c = (rw c.in-None.is, tt)

pub returns-in-Some : goal.returns-in-Some
unfolding known
returns-in-Some c = rw c.in-Some.is c.find_id.ensures
