-- `store::account::is_other_id` meets its contract. Assumes nothing.
use Rattle.store.proofs.account.is_other_id.Goals as goal

pub returns : goal.returns
returns c = rw c.number_at.ensures
