-- `store::search::find_next` meets its contract. Assumes nothing.
use Rattle.std.proofs.Common.{rules}
use Rattle.records.specs.Layout.{places}
use Rattle.store.specs.Search.{waiting, turn}
use Rattle.store.proofs.search.find_next.Goals as goal

pub returns : goal.returns
returns c = c.lowest.ensures places waiting turn c.requires (λ r a h k. search rules) (λ r a h k. search rules)
