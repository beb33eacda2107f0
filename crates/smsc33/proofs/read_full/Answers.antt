-- `smsc33::read_full` meets its contract: at first nothing is read. Assumes nothing.
use mathlib.Core.Path.{refl}
use native.Mathlib.Omega.{arith}
use borrow.Author.Rules.{rules}
use Rattle.smsc33.proofs.read_full.Goals as goal

pub loop-done-init : goal.loop-done-init
loop-done-init g c = (refl, omega arith, search rules)
