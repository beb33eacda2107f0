-- `smsc33::turn::take` meets its contract. Assumes nothing.
use Rattle.octets.proofs.LentLaws.{held}
use Rattle.smsc33.proofs.turn.take.Goals as goal

pub returns-in-Ok : goal.returns-in-Ok
returns-in-Ok c =
    let s = rw (held c.first-reply.ensures) at c.told.ensures.0 c.take-took.new.table in
    (rw (← c.take-took.ensures, c.in-Ok.is) s, c.told.ensures.1)

pub returns-in-Err : goal.returns-in-Err
returns-in-Err c =
    let s = rw c.from.ensures at c.told-in-Err.ensures.0 c.take-took.new.table in
    (rw (← c.take-took.ensures, c.in-Err.is) s, c.told-in-Err.ensures.1)
