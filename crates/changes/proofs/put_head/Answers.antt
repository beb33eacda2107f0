-- `changes::put_head` meets its contract. Assumes nothing.
use mathlib.Core.Path.{refl}
use mathlib.Core.List.{[], ◌∷◌}
use native.Mathlib.Omega.{arith}
use lib.ListN.{length-append}
use Rattle.octets.specs.Number.{octets4}
use Rattle.changes.proofs.ChangeLaws.{pieces2, pieces4}
use Rattle.changes.proofs.put_head.Goals as goal

pub returns : goal.returns
unfolding octets4
returns c = (
  rw (c.put-3.ensures, c.put-2.ensures, c.put.ensures, c.put_number.ensures, c.put_octet.ensures, pieces2 c.args.r.now 0 1 (1 ∷ []) (octets4 c.args.id) refl) (pieces4 c.args.r.now 0 5 27 49 (1 ∷ octets4 c.args.id) c.args.source.now c.args.destination.now c.args.service.now refl (omega arith) (omega arith)),
  simp length-append (omega arith),
)
