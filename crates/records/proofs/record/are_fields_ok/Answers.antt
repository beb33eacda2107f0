-- `records::record::are_fields_ok` meets its contract. Assumes nothing.
use Rattle.records.specs.Record.{fields_ok}
use Rattle.records.proofs.record.are_fields_ok.Goals as goal

pub returns : goal.returns
unfolding fields_ok
returns c = rw (c.is_text_ok.ensures, c.is_time_ok-2.ensures, c.is_time_ok.ensures, c.is_field.ensures, c.is_address_ok-2.ensures, c.is_address_ok.ensures)
