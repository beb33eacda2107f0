-- `records::record::is_time_ok` meets its contract. Assumes nothing.
use mathlib.Core.Path.{sym, ◌∙◌}
use Rattle.records.proofs.record.is_time_ok.Goals as goal

pub returns-then-all_zero : goal.returns-then-all_zero
returns-then-all_zero c = rw (sym c.all_zero.ensures ∙ c.if-all_zero.true)

pub returns-else-all_zero : goal.returns-else-all_zero
returns-else-all_zero c = rw (sym c.all_zero.ensures ∙ c.if-all_zero.false, c.is_stored_time.ensures)
