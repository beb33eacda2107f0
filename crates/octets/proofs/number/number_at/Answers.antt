-- `octets::number::number_at` meets its contract. Assumes nothing.
use native.Mathlib.Omega.{arith}
use Rattle.octets.proofs.NumberLaws.{four, number-four}
use Rattle.octets.proofs.number.number_at.Goals as goal

pub returns : goal.returns
returns c = rw (four c.args.s.now c.args.at (omega arith), number-four _ _ _ _) (omega (arith, c.from_be_bytes.ensures))
