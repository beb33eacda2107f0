-- `store::account::are_ids_apart` meets its contract: the tests so far, and those to come, are all of them. Assumes nothing.
use mathlib.Core.Path.{◌≡◌}
use mathlib.Core.Bool.{◌&&◌}
use Rattle.store.specs.Places.{records}
use Rattle.store.specs.Account.{apart}
use Rattle.store.proofs.PlacesLaws.{from}
use Rattle.store.proofs.account.are_ids_apart.Given as goal

abbrev pub invariant-loop-k : goal.invariant-loop-k
invariant-loop-k l = (apart (records l.part) ≡ (l.ok && apart (from l.k l.part)))
