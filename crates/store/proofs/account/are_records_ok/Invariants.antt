-- `store::account::are_records_ok` meets its contract: the tests so far, and those to come, are all of them. Assumes nothing.
use mathlib.Core.Path.{◌≡◌}
use mathlib.Core.Bool.{◌&&◌}
use Rattle.octets.specs.Stretch.{every}
use Rattle.records.specs.Record.{record_ok}
use Rattle.store.specs.Places.{records}
use Rattle.store.proofs.PlacesLaws.{from}
use Rattle.store.proofs.account.are_records_ok.Given as goal

abbrev pub invariant-loop-k : goal.invariant-loop-k
invariant-loop-k l = (every (record_ok l.last) (records l.part) ≡ (l.ok && every (record_ok l.last) (from l.k l.part)))
