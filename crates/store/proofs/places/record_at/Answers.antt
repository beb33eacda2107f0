-- `store::places::record_at` meets its contract. Assumes nothing.
use mathlib.Core.Path.{ap, ◌∙◌}
use Prim.Native.Nat.{◌*◌}
use native.Mathlib.Omega.{arith}
use lib.ListN.{length}
use Rattle.octets.specs.Lent.{lent}
use Rattle.octets.proofs.StretchLaws.{part_length}
use Rattle.octets.proofs.LentLaws.{held, lent_cut}
use Rattle.store.proofs.places.record_at.Goals as goal

pub returns : goal.returns
returns c = let e = lent_cut (lent c.args.part) (256 * c.args.k) 256 (omega arith) in (e, ap length (held e) ∙ part_length (256 * c.args.k) 256 c.args.part.now (omega arith))
