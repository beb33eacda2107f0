-- `bound::on_bound` meets its contract. Assumes nothing.
use mathlib.Core.Path.{sym, ◌∙◌}
use Rattle.octets.specs.Choice.{when◌then◌else◌}
use Rattle.bound.specs.Bound.{on_bound}
use Rattle.bound.proofs.on_bound.Goals as goal

pub returns-then-is_account_ok : goal.returns-then-is_account_ok
unfolding on_bound when◌then◌else◌
returns-then-is_account_ok c = rw (sym c.is_account_ok.ensures ∙ c.if-is_account_ok.true) c.framed.ensures

pub returns-else-is_account_ok : goal.returns-else-is_account_ok
unfolding on_bound when◌then◌else◌
returns-else-is_account_ok c = rw (sym c.is_account_ok.ensures ∙ c.if-is_account_ok.false)
