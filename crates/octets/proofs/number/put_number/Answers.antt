-- `octets::number::put_number` meets its contract. Assumes nothing.
use Rattle.std.proofs.Common.{rules}
use Rattle.octets.specs.Number.{octets4}
use Rattle.octets.proofs.number.put_number.Goals as goal

pub returns : goal.returns
unfolding octets4
returns c = search rules
