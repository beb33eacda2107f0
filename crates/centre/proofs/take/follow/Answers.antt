-- `centre::take::follow` meets its contract. Assumes nothing.
use Rattle.centre.proofs.take.follow.Goals as goal

pub returns-in-Open : goal.returns-in-Open
returns-in-Open c = λ table. rw c.in-Open.is
