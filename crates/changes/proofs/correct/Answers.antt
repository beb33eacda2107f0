-- `changes::correct` meets its contract. Assumes nothing.
use Rattle.std.proofs.Common.{rules}
use Rattle.changes.specs.Change.{corrected}
use Rattle.changes.proofs.correct.Goals as goal

pub returns : goal.returns
returns c = c.change_at.ensures (corrected c.args.c c.args.text.now) (λ r back h k. search rules)
