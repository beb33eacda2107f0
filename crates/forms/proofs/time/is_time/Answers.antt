-- `forms::time::is_time` meets its contract. Assumes nothing.
use borrow.Author.Tests.{eq-eqb, ne_eqb}
use Rattle.octets.specs.Choice.{when◌then◌else◌}
use Rattle.forms.specs.Time.{is_time}
use Rattle.forms.proofs.time.is_time.Goals as goal

pub returns-then-t-ne-LENGTH : goal.returns-then-t-ne-LENGTH
unfolding is_time when◌then◌else◌
returns-then-t-ne-LENGTH c = rw (ne_eqb _ _ c.if-t-ne-LENGTH.true)

pub returns : goal.returns
unfolding is_time when◌then◌else◌
returns c = rw (eq-eqb _ _ c.if-t-ne-LENGTH.false, c.is_two-7.ensures, c.is_decimal.ensures, c.is_two-6.ensures, c.is_two-5.ensures, c.is_two-4.ensures, c.is_two-3.ensures, c.is_two-2.ensures, c.is_two.ensures)
