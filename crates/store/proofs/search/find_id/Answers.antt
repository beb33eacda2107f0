-- `store::search::find_id` meets its contract. Assumes nothing.
use Rattle.std.proofs.Common.{rules}
use Rattle.records.specs.Layout.{places, id_of}
use Rattle.store.specs.Search.{has_id}
use Rattle.store.proofs.search.find_id.Goals as goal

pub returns : goal.returns
returns c = c.lowest.ensures places (has_id c.args.id) id_of c.requires (λ r a h k. search rules) (λ r a h k. search rules)
