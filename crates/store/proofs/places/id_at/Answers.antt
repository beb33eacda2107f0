-- `store::places::id_at` meets its contract. Assumes nothing.
use Rattle.octets.proofs.LentLaws.{held}
use Rattle.store.proofs.places.id_at.Goals as goal

pub returns : goal.returns
returns c = rw (← (held c.record_at-r.ensures.0)) c.number_at.ensures
