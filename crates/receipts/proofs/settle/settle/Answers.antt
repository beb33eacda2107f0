-- `receipts::settle::settle` meets its contract. Assumes nothing.
use borrow.Author.Tests.{eq-eqb, ne_eqb}
use Rattle.octets.specs.Choice.{when◌then◌else◌}
use Rattle.receipts.specs.Settle.{settled}
use Rattle.receipts.proofs.settle.settle.Goals as goal

pub returns-in_default : goal.returns-in_default
unfolding settled
returns-in_default c = rw c.in_default.is

pub returns-then-header-eq0 : goal.returns-then-header-eq0
unfolding settled when◌then◌else◌
returns-then-header-eq0 c = rw (c.in-Some.is, c.if-header-outstanding.true, eq-eqb _ _ c.if-header-eq0.true, c.acknowledge.ensures)

pub returns-else-header-eq0 : goal.returns-else-header-eq0
unfolding settled when◌then◌else◌
returns-else-header-eq0 c = rw (c.in-Some.is, c.if-header-outstanding.true, ne_eqb _ _ c.if-header-eq0.false)

pub returns-else-header-outstanding : goal.returns-else-header-outstanding
unfolding settled when◌then◌else◌
returns-else-header-outstanding c = rw (c.in-Some.is, c.if-header-outstanding.false)
