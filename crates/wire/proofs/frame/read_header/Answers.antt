-- `wire::frame::read_header` meets its contract. Assumes nothing.
use Rattle.wire.specs.Frame.{header_of}
use Rattle.wire.proofs.frame.read_header.Goals as goal

pub returns : goal.returns
unfolding header_of
returns c = rw (← c.number_at-command.ensures, ← c.number_at-status.ensures, ← c.number_at-sequence.ensures)
