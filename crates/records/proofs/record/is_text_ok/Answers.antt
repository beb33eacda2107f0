-- `records::record::is_text_ok` meets its contract. Assumes nothing.
use native.Mathlib.Omega.{arith}
use Rattle.octets.proofs.LentLaws.{held}
use Rattle.records.specs.Record.{text_ok}
use Rattle.records.proofs.record.is_text_ok.Goals as goal

pub overflow_cast-size : goal.overflow_cast-size
overflow_cast-size c = omega (arith, c.type_inv.r 92)

pub returns : goal.returns
unfolding text_ok
returns c = rw (← (held c.from-unused.ensures), c.all_zero.ensures)
