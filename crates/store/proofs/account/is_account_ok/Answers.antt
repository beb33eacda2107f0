-- `store::account::is_account_ok` meets its contract. Assumes nothing.
use Rattle.store.specs.Account.{places_ok, account_ok}
use Rattle.store.proofs.account.is_account_ok.Goals as goal

pub returns : goal.returns
unfolding places_ok account_ok
returns c = rw (c.are_ids_apart.ensures, c.are_records_ok.ensures, c.is_used_ok.ensures)
