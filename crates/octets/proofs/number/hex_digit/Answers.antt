-- `octets::number::hex_digit` meets its contract. Assumes nothing.
use native.Mathlib.Omega.{arith}
use borrow.Author.Tests.{lt-ltb, le-ltb}
use Rattle.octets.specs.Choice.{when◌then◌else◌}
use Rattle.octets.specs.Number.{hex_digit}
use Rattle.octets.proofs.number.hex_digit.Goals as goal

pub returns-then-d-lt10 : goal.returns-then-d-lt10
unfolding hex_digit when◌then◌else◌
returns-then-d-lt10 c = rw (lt-ltb _ _ c.if-d-lt10.true) (omega arith)

pub returns-else-d-lt10 : goal.returns-else-d-lt10
unfolding hex_digit when◌then◌else◌
returns-else-d-lt10 c = rw (le-ltb _ _ c.if-d-lt10.false) (omega arith)
