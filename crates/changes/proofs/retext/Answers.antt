-- `changes::retext` meets its contract. Assumes nothing.
use Rattle.std.proofs.Common.{rules}
use Rattle.changes.specs.Change.{retexted}
use Rattle.changes.proofs.retext.Goals as goal

pub returns : goal.returns
returns c = c.change_at.ensures (retexted c.args.default c.args.text.now) (λ r back h k. search rules)
