-- `bound::write_found` meets its contract. Assumes nothing.
use Rattle.octets.specs.Stretch.{part}
use Rattle.octets.proofs.LentLaws.{held}
use native.Mathlib.Omega.{arith}
use mathlib.Core.Path.{ap}
use lib.ListN.{length, length-take}
use Rattle.forms.proofs.TextLaws.{text_of-within}
use Rattle.bound.proofs.write_found.Goals as goal

pub query-requires : goal.query-requires
query-requires c = omega (arith, ap length (held c.text_of-date.ensures), simp length-take at (text_of-within (part 233 16 c.record_at-r.result.now)))

pub returns : goal.returns
returns c = rw (← (held c.record_at-r.ensures.0), ← c.number_at-id.ensures, ← (held c.text_of-date.ensures), ← c.wire_state-state.ensures) c.query.ensures
