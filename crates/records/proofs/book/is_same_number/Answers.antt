-- `records::book::is_same_number` meets its contract. Assumes nothing.
use lib.ListN.{length}
use Rattle.octets.proofs.LentLaws.{held}
use Rattle.forms.specs.Text.{after_spaces}
use Rattle.forms.proofs.TextLaws.{after_spaces-within}
use Rattle.records.proofs.SpaceLaws.{same-padded}
use Rattle.records.proofs.book.is_same_number.Goals as goal

pub returns : goal.returns
unfolding after_spaces
returns c =
    let a = c.args.a.now in
    let b = c.args.b.now in
    rw (c.is_same.ensures, c.all_zero.ensures, c.all_zero-2.ensures, held c.first.ensures, held c.first-2.ensures, held c.from.ensures, held c.from-2.ensures, held c.after_spaces-x.ensures, held c.after_spaces-y.ensures)
    (same-padded (length a) (length b) (after_spaces a) (after_spaces b) (after_spaces-within a) (after_spaces-within b))
