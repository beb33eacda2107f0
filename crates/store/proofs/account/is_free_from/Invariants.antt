-- `store::account::is_free_from` meets its contract: the tests so far, and those to come, are all of them. Assumes nothing.
use mathlib.Core.Path.{◌≡◌}
use mathlib.Core.Bool.{◌&&◌}
use Rattle.octets.specs.Stretch.{every}
use Rattle.store.specs.Account.{other_id}
use Rattle.store.proofs.PlacesLaws.{from}
use Rattle.store.proofs.account.is_free_from.Given as goal

abbrev pub invariant-loop-j : goal.invariant-loop-j
invariant-loop-j l = (every (other_id l.id) (from l.k l.part) ≡ (l.free && every (other_id l.id) (from l.j l.part)))
