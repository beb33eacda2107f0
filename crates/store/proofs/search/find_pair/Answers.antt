-- `store::search::find_pair` meets its contract. Assumes nothing.
use Rattle.std.proofs.Common.{rules}
use mathlib.Core.Bool.{◌&&◌}
use Rattle.records.specs.Layout.{places, id_of}
use Rattle.store.specs.Search.{waiting, between}
use Rattle.store.proofs.search.find_pair.Goals as goal

pub returns : goal.returns
returns c = c.lowest.ensures places (λ r. waiting r && between c.args.source.now c.args.destination.now r) id_of c.requires (λ r a h k. search rules) (λ r a h k. search rules)
