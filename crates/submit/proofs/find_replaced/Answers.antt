-- `submit::find_replaced` meets its contract. Assumes nothing.
use borrow.Author.Tests.{eq-eqb, ne_eqb}
use Rattle.octets.specs.Choice.{when◌then◌else◌}
use Rattle.submit.proofs.find_replaced.Goals as goal

pub returns-then-s-eq1 : goal.returns-then-s-eq1
unfolding when◌then◌else◌
returns-then-s-eq1 c = (rw (eq-eqb _ _ c.if-s-eq1.true) c.find_pair.ensures.0, c.find_pair.ensures.1)

pub returns-else-s-eq1 : goal.returns-else-s-eq1
unfolding when◌then◌else◌
returns-else-s-eq1 c = (rw (ne_eqb _ _ c.if-s-eq1.false), tt)
