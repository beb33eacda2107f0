-- `records::record::is_message_ok` meets its contract. Assumes nothing.
use Rattle.records.specs.Record.{message_ok}
use Rattle.records.proofs.record.is_message_ok.Goals as goal

pub returns : goal.returns
unfolding message_ok
returns c = rw (c.all_zero.ensures, c.is_mark_ok.ensures, c.is_end_ok.ensures, c.are_fields_ok.ensures, c.is_within-2.ensures, c.number_at.ensures, c.is_within.ensures, c.from.ensures)
