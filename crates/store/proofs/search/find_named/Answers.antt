-- `store::search::find_named` meets its contract. Assumes nothing.
use Rattle.std.proofs.Common.{rules}
use Rattle.records.specs.Layout.{account_count}
use Rattle.records.specs.Book.{named}
use Rattle.store.proofs.search.find_named.Goals as goal

pub returns : goal.returns
returns c = c.lowest.ensures account_count (named c.args.system.now c.args.kind.now) (λ r. 0) c.requires (λ r a h k. search rules) (λ r a h k. search rules)
