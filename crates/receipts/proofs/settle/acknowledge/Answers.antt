-- `receipts::settle::acknowledge` meets its contract. Assumes nothing.
use mathlib.Core.Path.{sym, ◌∙◌, subst}
use Prim.Native.Nat.{◌<◌}
use native.Mathlib.Omega.{arith}
use Rattle.store.specs.Places.{OnePlace}
use Rattle.receipts.specs.Settle.{acknowledged}
use Rattle.receipts.proofs.settle.acknowledge.Goals as goal

pub unmark-requires : goal.unmark-requires
unmark-requires c = let b : c.in-Some.k < 16 = subst OnePlace c.in-Some.is c.find_id.ensures.1 in omega arith

pub returns-in-Some : goal.returns-in-Some
unfolding acknowledged
returns-in-Some c = rw (sym c.find_id.ensures.0 ∙ c.in-Some.is) c.unmark.ensures

pub returns-in_default : goal.returns-in_default
unfolding acknowledged
returns-in_default c = rw (sym c.find_id.ensures.0 ∙ c.in_default.is)
