-- `store::search::find_owed` meets its contract. Assumes nothing.
use Rattle.std.proofs.Common.{rules}
use Rattle.records.specs.Layout.{places, id_of}
use Rattle.store.specs.Search.{owed}
use Rattle.store.proofs.search.find_owed.Goals as goal

pub returns : goal.returns
returns c = c.lowest.ensures places (owed c.args.ids.now) id_of c.requires (λ r a h k. search rules) (λ r a h k. search rules)
