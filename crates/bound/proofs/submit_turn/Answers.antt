-- `bound::submit_turn` meets its contract. Assumes nothing.
use Rattle.octets.specs.Choice.{when◌then◌else◌}
use Rattle.bound.specs.Bound.{submit_turn, replying}
use Rattle.bound.proofs.submit_turn.Goals as goal

pub returns-then-not-transmitter : goal.returns-then-not-transmitter
unfolding submit_turn replying when◌then◌else◌
returns-then-not-transmitter c = rw (c.if-not-transmitter.true, ← c.no_submission-written.ensures, c.spoken.ensures)

pub returns-in-Ok : goal.returns-in-Ok
unfolding submit_turn replying when◌then◌else◌
returns-in-Ok c = rw (c.if-not-transmitter.false, ← c.in-Ok.ensures, ← c.submit-written.ensures, c.spoken-in-Ok.ensures)

pub returns-in-Err : goal.returns-in-Err
unfolding submit_turn replying when◌then◌else◌
returns-in-Err c = rw (c.if-not-transmitter.false, ← c.in-Err.ensures, ← c.code.ensures, ← c.submit-written-in-Err.ensures, c.spoken-in-Err.ensures)
