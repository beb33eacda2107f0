-- `records::book::is_used_ok` meets its contract. Assumes nothing.
use Rattle.records.specs.Book.{book_ok}
use Rattle.records.proofs.RecordLaws.{used-book}
use Rattle.records.proofs.book.is_used_ok.Goals as goal

pub returns : goal.returns
unfolding book_ok
returns c = rw (c.all_zero.ensures, c.is_ended_text-4.ensures, c.is_ended_text-3.ensures, c.is_ended_text-2.ensures, c.is_ended_text.ensures) (used-book c.args.b.now)
