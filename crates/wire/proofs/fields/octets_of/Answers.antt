-- `wire::fields::octets_of` meets its contract. Assumes nothing.
use native.Mathlib.Omega.{arith}
use Rattle.octets.specs.Lent.{lent}
use Rattle.octets.proofs.LentLaws.{lent_cut}
use Rattle.wire.proofs.fields.octets_of.Goals as goal

pub returns : goal.returns
returns c = lent_cut (lent c.args.body) c.args.span.from c.args.span.len (omega arith)
