-- `forms::text::nibble_of` meets its contract. Assumes nothing.
use Rattle.std.proofs.Common.{rules}
use Rattle.std.proofs.lemmas.Bool.Decides.{nat_tests}
use native.Mathlib.Omega.{arith}
use Rattle.octets.specs.Choice.{when◌then◌else◌}
use Rattle.forms.specs.Text.{nibble}
use Rattle.forms.proofs.text.nibble_of.Goals as goal

pub returns-then-is_ascii_digit : goal.returns-then-is_ascii_digit
unfolding nibble when◌then◌else◌
returns-then-is_ascii_digit c = search rules

pub returns-then-contains : goal.returns-then-contains
unfolding nibble when◌then◌else◌
returns-then-contains c = search rules

pub returns-then-contains-2 : goal.returns-then-contains-2
unfolding nibble when◌then◌else◌
returns-then-contains-2 c = search rules

pub returns-else-contains-2 : goal.returns-else-contains-2
unfolding nibble when◌then◌else◌
returns-else-contains-2 c = grind (arith, nat_tests)
