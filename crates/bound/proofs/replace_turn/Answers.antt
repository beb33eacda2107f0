-- `bound::replace_turn` meets its contract. Assumes nothing.
use Rattle.octets.specs.Choice.{when◌then◌else◌}
use Rattle.bound.specs.Bound.{replace_turn, replying}
use Rattle.bound.proofs.replace_turn.Goals as goal

pub returns-then-not-transmitter : goal.returns-then-not-transmitter
unfolding replace_turn replying when◌then◌else◌
returns-then-not-transmitter c = rw (c.if-not-transmitter.true, ← c.wrong_state-written.ensures, c.spoken.ensures)

pub returns : goal.returns
unfolding replace_turn replying when◌then◌else◌
returns c = rw (c.if-not-transmitter.false, ← c.replace-replaced.ensures, ← c.of.ensures, ← c.bare-written.ensures, c.spoken-2.ensures)
