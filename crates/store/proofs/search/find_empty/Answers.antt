-- `store::search::find_empty` meets its contract. Assumes nothing.
use Rattle.std.proofs.Common.{rules}
use Rattle.records.specs.Layout.{places}
use Rattle.store.specs.Search.{is_empty}
use Rattle.store.proofs.search.find_empty.Goals as goal

pub returns : goal.returns
returns c = c.lowest.ensures places is_empty (λ r. 0) c.requires (λ r a h k. search rules) (λ r a h k. search rules)
