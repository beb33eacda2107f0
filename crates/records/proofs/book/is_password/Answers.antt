-- `records::book::is_password` meets its contract. Assumes nothing.
use Rattle.octets.proofs.LentLaws.{held}
use Rattle.records.specs.Book.{password_is}
use Rattle.records.proofs.book.is_password.Goals as goal

pub returns : goal.returns
unfolding password_is
returns c = rw (← (held c.text_of.ensures)) c.is_same.ensures
