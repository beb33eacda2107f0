-- `changes::finish` meets its contract. Assumes nothing.
use Rattle.std.proofs.Common.{rules}
use Rattle.changes.specs.Change.{finished}
use Rattle.changes.proofs.finish.Goals as goal

pub returns : goal.returns
returns c = c.change_at.ensures (finished c.args.state c.args.error c.args.stamp.now) (λ r back h k. search rules)
