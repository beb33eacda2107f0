-- `centre::deliver::deliver` meets its contract. Assumes nothing.
use mathlib.Core.Path.{refl, sym}
use borrow.Author.Tests.{eq-eqb, ne_eqb, le-leb, lt-leb}
use Rattle.octets.specs.Choice.{when◌then◌else◌}
use Rattle.session.proofs.RefusalLaws.{number-not-0}
use Rattle.isolation.specs.Platform.{step}
use Rattle.answers.specs.Answer.{delivering}
use Rattle.centre.specs.Centre.{world}
use Rattle.centre.proofs.EntryLaws.{unfit}
use Rattle.centre.proofs.deliver.deliver.Goals as goal

pub returns-then-session-ge-SESSIONS : goal.returns-then-session-ge-SESSIONS
unfolding step when◌then◌else◌
returns-then-session-ge-SESSIONS c = rw (le-leb _ _ c.if-session-ge-SESSIONS.true, c.refused.ensures)

pub returns-in-Err : goal.returns-in-Err
unfolding step when◌then◌else◌
returns-in-Err c =
    rw (lt-leb _ _ c.if-session-ge-SESSIONS.false, ← c.check.ensures.early, c.in-Err.is, ne_eqb _ _ (λ e. number-not-0 c.in-Err.refusal (sym e)), c.refused-in-Err.ensures)

pub deliver_bound-requires : goal.deliver_bound-requires
deliver_bound-requires c = let f = c.in_default.ensures.fit in record { platform = ((f.book_fits, f.table_fits), (c.if-session-ge-SESSIONS.false, refl)); call = f.space_fits }

pub deliver_bound-requires-in-Receiver : goal.deliver_bound-requires-in-Receiver
deliver_bound-requires-in-Receiver c = let f = c.in_default.ensures.fit in record { platform = ((f.book_fits, f.table_fits), (c.if-session-ge-SESSIONS.false, eq-eqb c.in-Receiver.a c.in-Receiver.a refl)); call = f.space_fits }

pub returns-in-Closed : goal.returns-in-Closed
unfolding step when◌then◌else◌
returns-in-Closed c = rw (lt-leb _ _ c.if-session-ge-SESSIONS.false, ← c.in_default.ensures.early, c.refused-in-Closed.ensures) (unfit c.args.book.now (world c.args.state c.args.table.now) c.args.session (delivering (record { sequence = c.args.sequence; space = c.args.space.now })) _ c.in-Closed.is)

pub returns-in-Open : goal.returns-in-Open
unfolding step when◌then◌else◌
returns-in-Open c = rw (lt-leb _ _ c.if-session-ge-SESSIONS.false, ← c.in_default.ensures.early, c.in-Open.is, c.refused-in-Open.ensures)

pub returns-in-Transmitter : goal.returns-in-Transmitter
unfolding step when◌then◌else◌
returns-in-Transmitter c = rw (lt-leb _ _ c.if-session-ge-SESSIONS.false, ← c.in_default.ensures.early, c.in-Transmitter.is) c.deliver_bound.ensures

pub returns-in-Receiver : goal.returns-in-Receiver
unfolding step when◌then◌else◌
returns-in-Receiver c = rw (lt-leb _ _ c.if-session-ge-SESSIONS.false, ← c.in_default.ensures.early, c.in-Receiver.is) c.deliver_bound-in-Receiver.ensures
