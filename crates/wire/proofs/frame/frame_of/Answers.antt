-- `wire::frame::frame_of` meets its contract. Assumes nothing.
use borrow.Author.Tests.{lt-ltb, le-ltb, ltb-false}
use Rattle.octets.specs.Choice.{when◌then◌else◌}
use Rattle.octets.proofs.StretchLaws.{or_left}
use Rattle.wire.specs.Frame.{frame_of}
use Rattle.wire.proofs.frame.frame_of.Goals as goal

pub returns-then-octets-lt4 : goal.returns-then-octets-lt4
unfolding frame_of when◌then◌else◌
returns-then-octets-lt4 c = (rw (lt-ltb _ _ c.if-octets-lt4.true), tt)

pub returns-then-n : goal.returns-then-n
unfolding frame_of when◌then◌else◌
returns-then-n c = (rw (le-ltb _ _ c.if-octets-lt4.false, ← c.number_at-n.ensures, c.if-n.true), tt)

pub returns-then-octets-whole : goal.returns-then-octets-whole
unfolding frame_of when◌then◌else◌
returns-then-octets-whole c = (rw (le-ltb _ _ c.if-octets-lt4.false, ← c.number_at-n.ensures, c.if-n.false, lt-ltb _ _ c.if-octets-whole.true), tt)

pub returns : goal.returns
unfolding frame_of when◌then◌else◌
returns c = (rw (le-ltb _ _ c.if-octets-lt4.false, ← c.number_at-n.ensures, c.if-n.false, le-ltb _ _ c.if-octets-whole.false), (ltb-false _ _ (or_left _ _ c.if-n.false), c.if-octets-whole.false))
