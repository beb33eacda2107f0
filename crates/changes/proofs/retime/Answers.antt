-- `changes::retime` meets its contract. Assumes nothing.
use mathlib.Core.Path.{sym, ◌∙◌}
use Rattle.octets.specs.Choice.{when◌then◌else◌}
use Rattle.changes.proofs.retime.Goals as goal

pub returns-then-not-all_zero : goal.returns-then-not-all_zero
unfolding when◌then◌else◌
returns-then-not-all_zero c = rw (sym c.all_zero.ensures ∙ c.if-not-all_zero.true) c.put.ensures

pub returns-else-not-all_zero : goal.returns-else-not-all_zero
unfolding when◌then◌else◌
returns-else-not-all_zero c = rw (sym c.all_zero.ensures ∙ c.if-not-all_zero.false)
