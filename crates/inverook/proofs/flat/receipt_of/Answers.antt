-- `inverook::flat::receipt_of` meets its contract. Assumes nothing.
use Rattle.octets.specs.Choice.{when◌then◌else◌}
use Rattle.inverook.specs.Flat.{receipt_of}
use Rattle.inverook.proofs.flat.receipt_of.Goals as goal

pub returns-then-kind-id : goal.returns-then-kind-id
unfolding receipt_of when◌then◌else◌
returns-then-kind-id c = rw c.if-kind-id.true

pub returns-else-kind-id : goal.returns-else-kind-id
unfolding receipt_of when◌then◌else◌
returns-else-kind-id c = rw c.if-kind-id.false
