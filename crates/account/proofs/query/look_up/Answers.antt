-- `account::query::look_up` meets its contract. Assumes nothing.
use mathlib.Core.Path.{sym, ◌∙◌, subst}
use Prim.Native.Nat.{◌<◌}
use native.Mathlib.Omega.{arith}
use Rattle.octets.specs.Choice.{when◌then◌else◌}
use Rattle.octets.proofs.LentLaws.{held}
use Rattle.store.specs.Places.{OnePlace}
use Rattle.account.specs.Query.{looked_up}
use Rattle.account.proofs.query.look_up.Goals as goal

pub returns-in_default : goal.returns-in_default
unfolding looked_up
returns-in_default c = (rw (sym c.find_known.ensures.0 ∙ c.in_default.is), tt)

pub record_at-r-requires : goal.record_at-r-requires
record_at-r-requires c = let b : c.in-Some.k < 16 = subst OnePlace c.in-Some.is c.find_known.ensures.1 in omega arith

pub returns-then-is_same_address : goal.returns-then-is_same_address
unfolding looked_up when◌then◌else◌
returns-then-is_same_address c = (rw (sym c.find_known.ensures.0 ∙ c.in-Some.is, ← (held c.record_at-r.ensures.0), ← c.source_for-wanted.ensures, sym c.is_same_address.ensures ∙ c.if-is_same_address.true), subst OnePlace c.in-Some.is c.find_known.ensures.1)

pub returns-else-is_same_address : goal.returns-else-is_same_address
unfolding looked_up when◌then◌else◌
returns-else-is_same_address c = (rw (sym c.find_known.ensures.0 ∙ c.in-Some.is, ← (held c.record_at-r.ensures.0), ← c.source_for-wanted.ensures, sym c.is_same_address.ensures ∙ c.if-is_same_address.false), tt)
