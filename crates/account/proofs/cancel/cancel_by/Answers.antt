-- `account::cancel::cancel_by` meets its contract. Assumes nothing.
use Rattle.account.proofs.cancel.cancel_by.Goals as goal

pub returns-in-None : goal.returns-in-None
returns-in-None c = rw c.in-None.is c.cancel_all.ensures

pub returns-in-Some : goal.returns-in-Some
returns-in-Some c = rw c.in-Some.is c.cancel_one.ensures
