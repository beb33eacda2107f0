-- `forms::time::is_two` meets its contract. Assumes nothing.
use native.Mathlib.Omega.{arith}
use Rattle.std.proofs.lemmas.Bool.Decides.{nat_tests}
use Rattle.octets.specs.Choice.{when◌then◌else◌}
use Rattle.forms.specs.Time.{two_digits}
use Rattle.forms.proofs.time.is_two.Goals as goal

pub returns-then-is_decimal : goal.returns-then-is_decimal
unfolding two_digits when◌then◌else◌
returns-then-is_decimal c = grind (arith, nat_tests)

pub returns-else-is_decimal : goal.returns-else-is_decimal
unfolding two_digits when◌then◌else◌
returns-else-is_decimal c = grind (arith, nat_tests)
