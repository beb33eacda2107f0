-- `account::cancel::cancel_all` meets its contract. Assumes nothing.
use Rattle.std.proofs.Common.{rules}
use borrow.Author.Tests.{eq-eqb, ne_eqb}
use Rattle.octets.specs.Choice.{when◌then◌else◌}
use Rattle.account.specs.Cancel.{cancelled_all}
use Rattle.account.proofs.cancel.cancel_all.Goals as goal

pub returns-then-destination-eq0 : goal.returns-then-destination-eq0
unfolding cancelled_all when◌then◌else◌
returns-then-destination-eq0 c = rw (eq-eqb _ _ c.if-destination-eq0.true)

pub returns-then-is_none : goal.returns-then-is_none
unfolding cancelled_all when◌then◌else◌
returns-then-is_none c = rw (ne_eqb _ _ c.if-destination-eq0.false, ← c.find_pair.ensures.0) (search rules)

pub returns : goal.returns
unfolding cancelled_all when◌then◌else◌
returns c = rw (ne_eqb _ _ c.if-destination-eq0.false, ← c.find_pair.ensures.0, c.delete_all.ensures) (search rules)
