-- `account::replace::is_replaceable` meets its contract. Assumes nothing.
use Rattle.octets.proofs.LentLaws.{held}
use Rattle.account.proofs.replace.is_replaceable.Goals as goal

pub returns : goal.returns
returns c = rw (← (held c.record_at-r.ensures.0), c.is_same_address.ensures)
