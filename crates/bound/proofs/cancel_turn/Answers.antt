-- `bound::cancel_turn` meets its contract. Assumes nothing.
use Rattle.octets.specs.Choice.{when◌then◌else◌}
use Rattle.bound.specs.Bound.{cancel_turn, replying}
use Rattle.bound.proofs.cancel_turn.Goals as goal

pub returns-then-not-transmitter : goal.returns-then-not-transmitter
unfolding cancel_turn replying when◌then◌else◌
returns-then-not-transmitter c = rw (c.if-not-transmitter.true, ← c.wrong_state-written.ensures, c.spoken.ensures)

pub returns : goal.returns
unfolding cancel_turn replying when◌then◌else◌
returns c = rw (c.if-not-transmitter.false, ← c.cancel-cancelled.ensures, ← c.of.ensures, ← c.bare-written.ensures, c.spoken-2.ensures)
