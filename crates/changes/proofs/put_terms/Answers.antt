-- `changes::put_terms` meets its contract. Assumes nothing.
use native.Mathlib.Omega.{arith}
use lib.ListN.{length-append}
use Rattle.changes.proofs.ChangeLaws.{pieces3}
use Rattle.changes.proofs.put_terms.Goals as goal

pub returns : goal.returns
returns c = (
  rw (c.put-3.ensures, c.put-2.ensures, c.put.ensures) (pieces3 c.args.r.now 54 57 73 c.args.flags.now c.args.schedule.now c.args.validity.now (omega arith) (omega arith)),
  simp length-append (omega arith),
)
