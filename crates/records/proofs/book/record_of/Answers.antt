-- `records::book::record_of` meets its contract. Assumes nothing.
use mathlib.Core.Path.{ap, ◌∙◌}
use Prim.Native.Nat.{◌*◌}
use native.Mathlib.Omega.{arith}
use lib.ListN.{length}
use Rattle.octets.specs.Lent.{lent}
use Rattle.octets.proofs.StretchLaws.{part_length}
use Rattle.octets.proofs.LentLaws.{held, lent_cut}
use Rattle.records.proofs.book.record_of.Goals as goal

pub returns : goal.returns
returns c = let e = lent_cut (lent c.args.book) (64 * c.args.a) 64 (omega arith) in (e, ap length (held e) ∙ part_length (64 * c.args.a) 64 c.args.book.now (omega arith))
