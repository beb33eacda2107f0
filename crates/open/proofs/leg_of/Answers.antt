-- `open::leg_of` meets its contract. Assumes nothing.
use Rattle.open.proofs.leg_of.Goals as goal

pub returns-then-receiver : goal.returns-then-receiver
returns-then-receiver c = rw c.if-receiver.true

pub returns-else-receiver : goal.returns-else-receiver
returns-else-receiver c = rw c.if-receiver.false
