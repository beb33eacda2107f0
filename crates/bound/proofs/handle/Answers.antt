-- `bound::handle` meets its contract. Assumes nothing.
use Rattle.bound.specs.Bound.{settled_by}
use Rattle.bound.proofs.handle.Goals as goal

pub returns : goal.returns
unfolding settled_by
returns c = rw (← c.command-acted.ensures, ← c.read_header-header.ensures, ← c.settle-receipt.ensures)
