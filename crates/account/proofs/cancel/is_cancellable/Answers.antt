-- `account::cancel::is_cancellable` meets its contract. Assumes nothing.
use Rattle.octets.proofs.LentLaws.{held}
use Rattle.account.specs.Cancel.{cancellable}
use Rattle.account.proofs.cancel.is_cancellable.Goals as goal

pub returns : goal.returns
unfolding cancellable
returns c = rw (← (held c.record_at-r.ensures.0), c.is_same_address-2.ensures, c.is_same_address.ensures)
