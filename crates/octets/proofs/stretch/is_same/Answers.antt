-- `octets::stretch::is_same` meets its contract. Assumes nothing.
use Rattle.octets.proofs.StretchLaws.{same-pointwise}
use Rattle.octets.proofs.stretch.is_same.Goals as goal

pub returns : goal.returns
returns c = rw (same-pointwise c.args.a.now c.args.b.now) c.eq.ensures
