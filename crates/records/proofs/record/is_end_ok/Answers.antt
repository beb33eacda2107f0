-- `records::record::is_end_ok` meets its contract. Assumes nothing.
use borrow.Author.Tests.{eq-eqb, ne_eqb}
use Rattle.octets.specs.Choice.{when◌then◌else◌}
use Rattle.records.specs.Record.{end_ok}
use Rattle.records.proofs.record.is_end_ok.Goals as goal

pub returns-then-state-eq1 : goal.returns-then-state-eq1
unfolding end_ok when◌then◌else◌
returns-then-state-eq1 c = simp (eq-eqb _ _ c.if-state-eq1.true, c.all_zero.ensures)

pub returns-else-state-eq1 : goal.returns-else-state-eq1
unfolding end_ok when◌then◌else◌
returns-else-state-eq1 c = simp (ne_eqb _ _ c.if-state-eq1.false, c.is_stored_time.ensures)
