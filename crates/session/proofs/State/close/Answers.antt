-- `session::State::close` meets its contract. Assumes nothing.
use borrow.Author.Tests.{le-leb, lt-leb}
use Rattle.octets.specs.Choice.{when◌then◌else◌}
use Rattle.session.specs.State.{closed}
use Rattle.session.proofs.State.close.Goals as goal

pub returns-then-session-ge-SESSIONS : goal.returns-then-session-ge-SESSIONS
unfolding closed when◌then◌else◌
returns-then-session-ge-SESSIONS c = rw (le-leb _ _ c.if-session-ge-SESSIONS.true, c.refused.ensures)

pub returns : goal.returns
unfolding closed when◌then◌else◌
returns c = rw (lt-leb _ _ c.if-session-ge-SESSIONS.false, c.bind-state.ensures)
