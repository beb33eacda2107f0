-- `inverook::inverook_open` meets its contract. Assumes nothing.
use Rattle.isolation.specs.Platform.{step}
use Rattle.inverook.proofs.inverook_open.Goals as goal

pub returns : goal.returns
unfolding step
returns c book table = rw (c.from-2.ensures, ← c.from.ensures, ← c.open.ensures)
