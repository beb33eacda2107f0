-- `account::cancel::cancel_one` meets its contract. Assumes nothing.
use mathlib.Core.Path.{sym, ◌∙◌, subst}
use Prim.Native.Nat.{◌<◌}
use native.Mathlib.Omega.{arith}
use Rattle.octets.specs.Choice.{when◌then◌else◌}
use Rattle.store.specs.Places.{OnePlace}
use Rattle.account.specs.Cancel.{cancelled_one}
use Rattle.account.proofs.cancel.cancel_one.Goals as goal

pub returns-in_default : goal.returns-in_default
unfolding cancelled_one
returns-in_default c = rw (sym c.find_id.ensures.0 ∙ c.in_default.is)

pub is_cancellable-requires : goal.is_cancellable-requires
is_cancellable-requires c = let b : c.in-Some.k < 16 = subst OnePlace c.in-Some.is c.find_id.ensures.1 in omega arith

pub returns-then-not-is_cancellable : goal.returns-then-not-is_cancellable
unfolding cancelled_one when◌then◌else◌
returns-then-not-is_cancellable c = rw (sym c.find_id.ensures.0 ∙ c.in-Some.is, sym c.is_cancellable.ensures ∙ c.if-not-is_cancellable.true)

pub finish-requires : goal.finish-requires
finish-requires c = let b : c.in-Some.k < 16 = subst OnePlace c.in-Some.is c.find_id.ensures.1 in omega arith

pub returns : goal.returns
unfolding cancelled_one when◌then◌else◌
returns c = rw (sym c.find_id.ensures.0 ∙ c.in-Some.is, sym c.is_cancellable.ensures ∙ c.if-not-is_cancellable.false, c.finish.ensures)
