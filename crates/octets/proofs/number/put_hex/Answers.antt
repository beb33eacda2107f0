-- `octets::number::put_hex` meets its contract. Assumes nothing.
use Rattle.octets.specs.Number.{hex8}
use Rattle.octets.proofs.number.put_hex.Goals as goal

pub returns : goal.returns
unfolding hex8
returns c = rw (← c.hex_digit.ensures, ← c.hex_digit-2.ensures, ← c.hex_digit-3.ensures, ← c.hex_digit-4.ensures, ← c.hex_digit-5.ensures, ← c.hex_digit-6.ensures, ← c.hex_digit-7.ensures, ← c.hex_digit-8.ensures) c.put.ensures
