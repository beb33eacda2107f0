-- `store::search::lowest` meets its contract: the best so far, carried over the records to come, is the best of all. Assumes nothing.
use Rattle.std.proofs.Common.{◌≡◌, ◌*◌, length}
use Rattle.octets.specs.Rows.{rows}
use Rattle.store.specs.Places.{Tells, over, none, keep}
use Rattle.store.proofs.PlacesLaws.{Left}
use Rattle.store.proofs.search.lowest.Given as goal

abbrev pub invariant-loop-place : goal.invariant-loop-place
invariant-loop-place g l =
    (l.place-iterator.iter.size ≡ l.size)
    × ((count : _) (p : _) (n : _) → length l.records ≡ l.size * count → Tells l.size (goal.P-post g l.passes) p → Tells l.size (goal.R-post g l.rank) n
    → Left (keep p n) l.size count (over (keep p n) none 0 (rows l.size count l.records)) l.place-iterator.count l.best l.place-iterator.iter.rest.now)
