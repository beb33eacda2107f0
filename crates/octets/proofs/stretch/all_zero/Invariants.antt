-- `octets::stretch::all_zero` meets its contract: the tests so far, and those to come, are all of them. Assumes nothing.
use mathlib.Core.Path.{◌≡◌}
use mathlib.Core.Bool.{◌&&◌}
use lib.ListN.{drop}
use Rattle.octets.specs.Stretch.{zeros}
use Rattle.octets.proofs.stretch.all_zero.Given as goal

abbrev pub invariant-loop-x : goal.invariant-loop-x
invariant-loop-x l = zeros l.s ≡ (l.zero && zeros (drop l.x-index l.s))
