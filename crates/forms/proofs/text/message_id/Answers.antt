-- `forms::text::message_id` meets its contract. Assumes nothing.
use mathlib.Core.Path.{sym, ap, ◌∙◌}
use native.Mathlib.Omega.{arith}
use lib.ListN.{length}
use Rattle.forms.proofs.TextLaws.{after_spaces-within}
use Rattle.octets.specs.Choice.{when◌then◌else◌}
use Rattle.octets.proofs.LentLaws.{held}
use Rattle.forms.specs.Text.{after_spaces, message_id}
use Rattle.forms.proofs.text.message_id.Goals as goal

pub hex_value-requires : goal.hex_value-requires
unfolding after_spaces
hex_value-requires c = omega (arith, ap length (held c.after_spaces.ensures), after_spaces-within c.args.text.now)

pub returns-then-is_empty : goal.returns-then-is_empty
unfolding message_id when◌then◌else◌
returns-then-is_empty c = rw (sym c.is_empty.ensures ∙ c.if-is_empty.true)

pub returns-else-is_empty : goal.returns-else-is_empty
unfolding after_spaces message_id when◌then◌else◌
returns-else-is_empty c = rw (sym c.is_empty.ensures ∙ c.if-is_empty.false, ← (held c.after_spaces.ensures), c.hex_value.ensures)
