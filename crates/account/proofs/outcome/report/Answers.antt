-- `account::outcome::report` meets its contract. Assumes nothing.
use mathlib.Core.Path.{sym, ◌∙◌, subst}
use Prim.Native.Nat.{◌<◌}
use native.Mathlib.Omega.{arith}
use Rattle.octets.specs.Choice.{when◌then◌else◌}
use Rattle.store.specs.Places.{OnePlace}
use Rattle.account.specs.Outcome.{reported}
use Rattle.account.proofs.outcome.report.Goals as goal

pub returns-in_default : goal.returns-in_default
unfolding reported
returns-in_default c = rw (sym c.find_id.ensures.0 ∙ c.in_default.is)

pub is_waiting_at-requires : goal.is_waiting_at-requires
is_waiting_at-requires c = let b : c.in-Some.k < 16 = subst OnePlace c.in-Some.is c.find_id.ensures.1 in omega arith

pub returns-then-not-is_waiting_at : goal.returns-then-not-is_waiting_at
unfolding reported when◌then◌else◌
returns-then-not-is_waiting_at c = rw (sym c.find_id.ensures.0 ∙ c.in-Some.is, sym c.is_waiting_at.ensures ∙ c.if-not-is_waiting_at.true)

pub finish-requires : goal.finish-requires
finish-requires c = let b : c.in-Some.k < 16 = subst OnePlace c.in-Some.is c.find_id.ensures.1 in omega arith

pub returns : goal.returns
unfolding reported when◌then◌else◌
returns c = rw (sym c.find_id.ensures.0 ∙ c.in-Some.is, sym c.is_waiting_at.ensures ∙ c.if-not-is_waiting_at.false, c.finish.ensures)
