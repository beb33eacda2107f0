-- `smsc33::turn::turn` meets its contract. Assumes nothing.
use native.Mathlib.Nat.{add-sub_cancel_left}
use Rattle.smsc33.specs.Turn.{turn_of}
use Rattle.isolation.specs.Platform.{step}
use Rattle.smsc33.proofs.turn.turn.Goals as goal

pub returns-in-Some-Open : goal.returns-in-Some-Open
unfolding turn_of step
returns-in-Some-Open c =
    let s = rw c.number_of-number.ensures at c.told.ensures.0 c.args.table.now in
    (rw (← c.order_of.ensures.0, c.in-Some-Open.is, c.in-Some-Open.field-0-is, ← c.from.ensures, ← c.open-opened.ensures) s, c.told.ensures.1)

pub returns-in-Some-Octets : goal.returns-in-Some-Octets
unfolding turn_of
returns-in-Some-Octets c =
    let s = rw (add-sub_cancel_left 20 c.length_of-end.result) at c.take.ensures.0 in
    (rw (← c.order_of.ensures.0, c.in-Some-Octets.is, c.in-Some-Octets.field-0-is, ← c.from-in-Some-Octets.ensures, ← c.length_of-end.ensures.0) s, c.take.ensures.1)

pub returns-in-Some-Close : goal.returns-in-Some-Close
unfolding turn_of step
returns-in-Some-Close c =
    let s = rw c.number_of-number-in-Some-Close.ensures at c.told-in-Some-Close.ensures.0 c.args.table.now in
    (rw (← c.order_of.ensures.0, c.in-Some-Close.is, c.in-Some-Close.field-0-is, ← c.from-in-Some-Close.ensures, ← c.close-closed.ensures) s, c.told-in-Some-Close.ensures.1)

pub returns-in-Some-Outcome : goal.returns-in-Some-Outcome
unfolding turn_of
returns-in-Some-Outcome c = (rw (← c.order_of.ensures.0, c.in-Some-Outcome.is, c.in-Some-Outcome.field-0-is) c.outcome.ensures.0, c.outcome.ensures.1)

pub returns-in-None : goal.returns-in-None
unfolding turn_of
returns-in-None c = (rw (← c.order_of.ensures.0, c.in-None.is) (c.stop.ensures.0 c.args.table.now), c.stop.ensures.1)
