-- `changes::finish_record` meets its contract. Assumes nothing.
use mathlib.Core.Path.{refl}
use mathlib.Core.List.{[], ◌∷◌}
use native.Mathlib.Omega.{arith}
use Rattle.octets.specs.Stretch.{patch}
use Rattle.records.specs.Layout.{registered_of}
use Rattle.changes.specs.Change.{finished}
use Rattle.changes.proofs.ChangeLaws.{pieces3}
use Rattle.changes.proofs.finish_record.Goals as goal

pub returns : goal.returns
unfolding finished
returns c = let r = c.args.r.now in
    rw (c.put_octet-3.ensures, c.put_octet-2.ensures, c.put.ensures, c.put_octet.ensures)
    (pieces3 (patch r 0 (c.args.state ∷ [])) 233 249 250 c.args.stamp.now (c.args.error ∷ []) (registered_of r ∷ []) (omega arith) refl)
