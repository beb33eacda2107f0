-- `smsc33::turn::outcome` meets its contract. Assumes nothing.
use Rattle.smsc33.proofs.turn.outcome.Goals as goal

pub returns : goal.returns
returns c =
    let s = rw (c.number_at-id.ensures, c.from.ensures) at c.outcome-outcome.ensures in
    (rw (← s) (rw c.number_of.ensures at c.told.ensures.0 c.outcome-outcome.new.table), c.told.ensures.1)
