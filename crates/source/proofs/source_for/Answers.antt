-- `source::source_for` meets its contract. Assumes nothing.
use mathlib.Core.Path.{sym, ◌∙◌}
use native.Mathlib.Omega.{arith}
use lib.ListN.{replicate}
use Rattle.octets.specs.Choice.{when◌then◌else◌}
use Rattle.octets.proofs.PatchLaws.{patch-whole}
use Rattle.octets.proofs.StretchLaws.{part_length}
use Rattle.records.specs.Book.{callback_of}
use Rattle.source.specs.Source.{source_for}
use Rattle.source.proofs.source_for.Goals as goal

pub returns-then-is_none : goal.returns-then-is_none
unfolding source_for when◌then◌else◌
returns-then-is_none c = rw (sym c.is_none.ensures ∙ c.if-is_none.true, c.put.ensures) (patch-whole (replicate 22 0) (callback_of c.args.book.now) (part_length 38 22 c.args.book.now (omega arith)))

pub returns-else-is_none : goal.returns-else-is_none
unfolding source_for when◌then◌else◌
returns-else-is_none c = rw (sym c.is_none.ensures ∙ c.if-is_none.false)
