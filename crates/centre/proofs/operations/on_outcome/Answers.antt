-- `centre::operations::on_outcome` meets its contract. Assumes nothing.
use mathlib.Core.Path.{sym, ◌∙◌}
use Rattle.octets.specs.Choice.{when◌then◌else◌}
use Rattle.centre.specs.Operations.{noted}
use Rattle.centre.proofs.operations.on_outcome.Goals as goal

pub returns-then-not-is_outcome : goal.returns-then-not-is_outcome
unfolding noted when◌then◌else◌
returns-then-not-is_outcome c = rw (sym c.is_outcome.ensures ∙ c.if-not-is_outcome.true)

pub returns-then-not-is_account_ok : goal.returns-then-not-is_account_ok
unfolding noted when◌then◌else◌
returns-then-not-is_account_ok c = rw (sym c.is_outcome.ensures ∙ c.if-not-is_outcome.false, sym c.is_account_ok.ensures ∙ c.if-not-is_account_ok.true)

pub returns-then-report : goal.returns-then-report
unfolding noted when◌then◌else◌
returns-then-report c = rw (sym c.is_outcome.ensures ∙ c.if-not-is_outcome.false, sym c.is_account_ok.ensures ∙ c.if-not-is_account_ok.false, ← c.report.ensures, c.if-report.true)

pub returns-else-report : goal.returns-else-report
unfolding noted when◌then◌else◌
returns-else-report c = rw (sym c.is_outcome.ensures ∙ c.if-not-is_outcome.false, sym c.is_account_ok.ensures ∙ c.if-not-is_account_ok.false, ← c.report.ensures, c.if-report.false)
