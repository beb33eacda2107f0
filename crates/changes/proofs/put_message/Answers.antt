-- `changes::put_message` meets its contract. Assumes nothing.
use mathlib.Core.List.{[], ◌∷◌}
use native.Mathlib.Omega.{arith}
use lib.ListN.{length}
use Rattle.changes.proofs.ChangeLaws.{pieces3}
use Rattle.changes.proofs.put_message.Goals as goal

pub returns : goal.returns
returns c = (
  rw (c.put-2.ensures, c.put_octet.ensures, c.put.ensures) (pieces3 c.args.r.now 89 92 93 c.args.flags.now (length c.args.text.now ∷ []) c.args.text.now (omega arith) (omega arith)),
  omega arith,
)
