-- `bound::query_turn` meets its contract. Assumes nothing.
use Rattle.octets.specs.Choice.{when◌then◌else◌}
use Rattle.bound.specs.Bound.{query_turn, replying}
use Rattle.bound.proofs.query_turn.Goals as goal

pub returns-then-not-transmitter : goal.returns-then-not-transmitter
unfolding query_turn replying when◌then◌else◌
returns-then-not-transmitter c = rw (c.if-not-transmitter.true, ← c.no_query-written.ensures, c.spoken.ensures)

pub returns-in-Ok : goal.returns-in-Ok
unfolding query_turn replying when◌then◌else◌
returns-in-Ok c = rw (c.if-not-transmitter.false, ← c.in-Ok.ensures.0, ← c.write_found.ensures, c.spoken-in-Ok.ensures)

pub returns-in-Err : goal.returns-in-Err
unfolding query_turn replying when◌then◌else◌
returns-in-Err c = rw (c.if-not-transmitter.false, ← c.in-Err.ensures.0, ← c.code.ensures, ← c.no_query-written-in-Err.ensures, c.spoken-in-Err.ensures)
