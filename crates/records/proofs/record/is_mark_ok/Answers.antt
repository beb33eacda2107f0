-- `records::record::is_mark_ok` meets its contract. Assumes nothing.
use Rattle.records.specs.Record.{mark_ok}
use Rattle.records.proofs.record.is_mark_ok.Goals as goal

pub returns : goal.returns
unfolding mark_ok
returns c = rw (c.is_within.ensures, c.from-state.ensures)
