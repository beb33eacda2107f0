-- `changes::unmark` meets its contract. Assumes nothing.
use Rattle.std.proofs.Common.{rules}
use Rattle.changes.specs.Change.{unmarked}
use Rattle.changes.proofs.unmark.Goals as goal

pub returns : goal.returns
unfolding unmarked
returns c = c.change_at.ensures unmarked (λ r back h k. search rules)
