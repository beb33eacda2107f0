-- `wire::fields::Fields::end` meets its contract. Assumes nothing.
use borrow.Author.Tests.{lt-ltb, le-ltb}
use Rattle.octets.specs.Choice.{when◌then◌else◌}
use Rattle.wire.specs.Cursor.{end_of}
use Rattle.wire.proofs.fields.Fields.end.Goals as goal

pub returns-then-self : goal.returns-then-self
unfolding end_of when◌then◌else◌
returns-then-self c = rw (lt-ltb _ _ c.if-self.true)

pub returns-else-self : goal.returns-else-self
unfolding end_of when◌then◌else◌
returns-else-self c = rw (le-ltb _ _ c.if-self.false)
