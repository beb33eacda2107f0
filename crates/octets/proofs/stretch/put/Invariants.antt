-- `octets::stretch::put` meets its contract: after i turns the first i octets of the source are pasted. Assumes nothing.
use mathlib.Core.Path.{◌≡◌}
use lib.Seq.{paste}
use Rattle.octets.proofs.stretch.put.Given as goal

abbrev pub invariant-loop-i : goal.invariant-loop-i
invariant-loop-i l = l.target ≡ paste l.initial.target l.at l.source l.i
