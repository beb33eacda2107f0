-- `records::book::is_same_system_id` meets its contract. Assumes nothing.
use Rattle.records.specs.Book.{same_system_id}
use Rattle.records.proofs.book.is_same_system_id.Goals as goal

pub returns : goal.returns
unfolding same_system_id
returns c = rw (c.is_given.ensures, c.is_given-2.ensures, c.is_same_name.ensures)
