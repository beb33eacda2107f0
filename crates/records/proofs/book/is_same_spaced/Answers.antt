-- `records::book::is_same_spaced` meets its contract. Assumes nothing.
use Rattle.octets.proofs.LentLaws.{held}
use Rattle.records.specs.Book.{same_address}
use Rattle.records.proofs.book.is_same_spaced.Goals as goal

pub returns : goal.returns
unfolding same_address
returns c = rw (c.is_same.ensures, c.is_same_number.ensures, held c.first.ensures, held c.first-2.ensures, held c.from.ensures, held c.from-2.ensures)
