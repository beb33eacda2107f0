-- `session::State::open` meets its contract. Assumes nothing.
use borrow.Author.Tests.{le-leb, lt-leb}
use Rattle.octets.specs.Choice.{when◌then◌else◌}
use mathlib.Core.Path.{◌≡◌, refl}
use mathlib.Core.Logic.{◌≢◌}
use Prim.Native.Nat.{ℕ}
use Rattle.session.specs.State.{entry_at, moved, opened, opened_from}
use Rattle.session.specs.declared.Entry.{Entry}
use Rattle.session.specs.declared.Entry.TheVariants.{Closed, Open, Transmitter, Receiver, Ended}
use Rattle.session.specs.declared.State.{State}
use Rattle.session.proofs.State.open.Goals as goal

stays : (st : State) (s : ℕ) (e : Entry) → e ≢ Closed → moved 6 st ≡ opened_from st s e
stays st s Closed h = absurd (h refl)
stays st s Open h = refl
stays st s (Transmitter a) h = refl
stays st s (Receiver a) h = refl
stays st s Ended h = refl

pub returns-then-session-ge-SESSIONS : goal.returns-then-session-ge-SESSIONS
unfolding opened when◌then◌else◌
returns-then-session-ge-SESSIONS c = rw (le-leb _ _ c.if-session-ge-SESSIONS.true, c.refused.ensures)

pub returns-in_default : goal.returns-in_default
unfolding opened when◌then◌else◌
returns-in_default c = rw (lt-leb _ _ c.if-session-ge-SESSIONS.false, c.refused-in_default.ensures) (stays c.args.self c.args.session (entry_at c.args.self c.args.session) c.in_default.not-Closed)

pub returns : goal.returns
unfolding opened when◌then◌else◌
returns c = rw (lt-leb _ _ c.if-session-ge-SESSIONS.false, c.in-Closed.is, c.bind-state.ensures)
