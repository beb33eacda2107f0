-- `centre::take::take_open` meets its contract. Assumes nothing.
use Rattle.open.specs.Open.{on_open}
use Rattle.centre.proofs.take.take_open.Goals as goal

pub returns-in-Err : goal.returns-in-Err
unfolding on_open
returns-in-Err c = λ stamp table. rw (← c.in-Err.ensures, c.refused.ensures)

pub returns-in-Ok : goal.returns-in-Ok
unfolding on_open
returns-in-Ok c = λ stamp table. rw (← c.in-Ok.ensures, c.follow.ensures table)
