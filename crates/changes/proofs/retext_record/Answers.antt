-- `changes::retext_record` meets its contract. Assumes nothing.
use mathlib.Core.Path.{refl}
use mathlib.Core.List.{[], ◌∷◌}
use native.Mathlib.Omega.{arith}
use lib.ListN.{length}
use Rattle.octets.specs.Stretch.{padded}
use Rattle.octets.proofs.PatchLaws.{patch-zeros}
use Rattle.changes.specs.Change.{retexted}
use Rattle.changes.proofs.ChangeLaws.{pieces2}
use Rattle.changes.proofs.retext_record.Goals as goal

pub returns : goal.returns
unfolding retexted
returns c = rw (c.put-3.ensures, c.put-2.ensures, c.put.ensures, patch-zeros 140 c.args.text.now (omega arith)) (pieces2 c.args.r.now 91 93 (c.args.default ∷ length c.args.text.now ∷ []) (padded 140 c.args.text.now) refl)
