-- `records::book::is_ended_text` meets its contract. Assumes nothing.
use Rattle.records.proofs.book.is_ended_text.Goals as goal

pub returns : goal.returns
returns c = rw c.is_field.ensures
