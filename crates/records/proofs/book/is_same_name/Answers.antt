-- `records::book::is_same_name` meets its contract. Assumes nothing.
use Rattle.octets.proofs.LentLaws.{held}
use Rattle.forms.specs.Text.{after_spaces}
use Rattle.records.specs.Book.{same_name}
use Rattle.records.proofs.book.is_same_name.Goals as goal

pub returns : goal.returns
unfolding same_name after_spaces
returns c = rw (← (held c.after_spaces.ensures), ← (held c.after_spaces-2.ensures)) c.is_same.ensures
