-- `changes::correct_record` meets its contract. Assumes nothing.
use Rattle.changes.specs.Change.{corrected}
use Rattle.changes.proofs.correct_record.Goals as goal

pub returns : goal.returns
unfolding corrected
returns c = rw (c.retext_record.ensures, c.put_octet.ensures, c.retime-2.ensures, c.retime.ensures)
