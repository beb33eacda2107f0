-- `store::search::find_new` meets its contract. Assumes nothing.
use Rattle.std.proofs.Common.{rules}
use Rattle.store.specs.Search.{or_else}
use Rattle.store.proofs.search.find_new.Goals as goal

pub returns : goal.returns
unfolding or_else
returns c = rw (← c.find_empty.ensures.0) (search rules)
