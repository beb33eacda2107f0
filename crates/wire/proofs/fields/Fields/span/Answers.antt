-- `wire::fields::Fields::span` meets its contract. Assumes nothing.
use borrow.Author.Tests.{ne_eqb, lt-ltb, le-ltb}
use Rattle.octets.specs.Choice.{when◌then◌else◌}
use Rattle.octets.proofs.LentLaws.{held}
use Rattle.wire.specs.Fields.{span_at}
use Rattle.wire.proofs.fields.Fields.span.Goals as goal

pub returns-then-from-len-clause-read : goal.returns-then-from-len-clause-read
unfolding span_at when◌then◌else◌
returns-then-from-len-clause-read c = rw (← c.from-len.ensures, ← (held c.from.ensures), lt-ltb _ _ c.if-from-len.true)

pub returns-then-len-eq0-clause-read : goal.returns-then-len-eq0-clause-read
unfolding span_at when◌then◌else◌
returns-then-len-eq0-clause-read c = rw (← c.from-len.ensures, ← (held c.from.ensures), le-ltb _ _ c.if-from-len.false, c.if-len-eq0.true)

pub returns-clause-read : goal.returns-clause-read
unfolding span_at when◌then◌else◌
returns-clause-read c = rw (← c.from-len.ensures, ← (held c.from.ensures), le-ltb _ _ c.if-from-len.false, ne_eqb _ _ c.if-len-eq0.false)
