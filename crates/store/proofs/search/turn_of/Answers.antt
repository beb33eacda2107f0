-- `store::search::turn_of` meets its contract. Assumes nothing.
use borrow.Author.Tests.{eq-eqb, ne_eqb}
use Rattle.octets.specs.Choice.{when◌then◌else◌}
use Rattle.store.proofs.search.turn_of.Goals as goal

pub returns-then-r-eq1 : goal.returns-then-r-eq1
unfolding when◌then◌else◌
returns-then-r-eq1 c = rw (eq-eqb _ _ c.if-r-eq1.true) c.number_at-id.ensures

pub returns-else-r-eq1 : goal.returns-else-r-eq1
unfolding when◌then◌else◌
returns-else-r-eq1 c = rw (ne_eqb _ _ c.if-r-eq1.false, c.number_at-id.ensures)
