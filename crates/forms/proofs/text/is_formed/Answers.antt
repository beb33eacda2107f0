-- `forms::text::is_formed` meets its contract. Assumes nothing.
use Rattle.octets.proofs.LentLaws.{held}
use Rattle.forms.specs.Text.{after_spaces, formed}
use Rattle.forms.proofs.text.is_formed.Goals as goal

pub returns-in-Ascii : goal.returns-in-Ascii
unfolding formed
returns-in-Ascii c = rw c.in-Ascii.is c.is_all.ensures

pub returns-in-Digits : goal.returns-in-Digits
unfolding formed
returns-in-Digits c = rw c.in-Digits.is c.is_given.ensures

pub returns-in-Address : goal.returns-in-Address
unfolding after_spaces formed
returns-in-Address c = rw (c.in-Address.is, ← (held c.after_spaces.ensures)) c.is_given-in-Address.ensures

pub returns-in-AddressOrNone : goal.returns-in-AddressOrNone
unfolding after_spaces formed
returns-in-AddressOrNone c = rw (c.in-AddressOrNone.is, c.is_empty.ensures, ← (held c.after_spaces-in-AddressOrNone.ensures), c.is_given-in-AddressOrNone.ensures)

pub returns-in-MessageIdOrNone : goal.returns-in-MessageIdOrNone
unfolding after_spaces formed
returns-in-MessageIdOrNone c = rw (c.in-MessageIdOrNone.is, c.is_empty-in-MessageIdOrNone.ensures, ← (held c.after_spaces-digits.ensures), c.is_given-in-MessageIdOrNone.ensures)
