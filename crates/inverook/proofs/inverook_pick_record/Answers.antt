-- `inverook::inverook_pick_record` meets its contract. Assumes nothing.
use borrow.Author.Tests.{lt-ltb, le-ltb}
use Rattle.octets.specs.Choice.{when◌then◌else◌}
use Rattle.inverook.specs.Calls.{copied_to}
use Rattle.inverook.proofs.inverook_pick_record.Goals as goal

pub returns-then-space-picked : goal.returns-then-space-picked
unfolding copied_to when◌then◌else◌
returns-then-space-picked c = rw (← c.from.ensures, ← c.pick-picked.ensures.1, lt-ltb _ _ c.if-space-picked.true)

pub returns : goal.returns
unfolding copied_to when◌then◌else◌
returns c = rw (← c.from.ensures, ← c.pick-picked.ensures.1, le-ltb _ _ c.if-space-picked.false, c.put.ensures)
