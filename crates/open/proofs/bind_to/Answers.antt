-- `open::bind_to` meets its contract. Assumes nothing.
use mathlib.Core.Path.{sym, ◌∙◌, subst}
use Prim.Native.Nat.{◌<◌}
use native.Mathlib.Omega.{arith}
use Rattle.std.proofs.lemmas.Result.{err_from_is_err_and}
use Rattle.octets.specs.Choice.{when◌then◌else◌}
use Rattle.wire.proofs.StatusLaws.{code-not_zero}
use Rattle.octets.proofs.LentLaws.{held}
use Rattle.store.specs.Places.{Below}
use Rattle.open.specs.Open.{bind_to}
use Rattle.open.proofs.bind_to.Goals as goal

pub returns-in_err-request : goal.returns-in_err-request
unfolding bind_to when◌then◌else◌
returns-in_err-request c =
    let p = err_from_is_err_and c.from_residual.result c.from_residual.ensures.1 in
    rw (p.1, p.2, c.in_err-request.ensures.read, code-not_zero c.in_err-request.field-0.0)

pub returns-in_default : goal.returns-in_default
unfolding bind_to when◌then◌else◌
returns-in_default c = rw (c.in_ok-request.ensures.read.0, c.in_ok-request.ensures.read.1, ← (held c.octets_of.ensures), ← (held c.octets_of-2.ensures), sym c.find_named-found.ensures.0 ∙ c.in_default.is)

pub record_of-record-requires : goal.record_of-record-requires
record_of-record-requires c = let b : c.in-Some.a < 8 = subst (Below 8) c.in-Some.is c.find_named-found.ensures.1 in omega arith

pub overflow_cast-a : goal.overflow_cast-a
overflow_cast-a c = let b : c.in-Some.a < 8 = subst (Below 8) c.in-Some.is c.find_named-found.ensures.1 in omega arith

pub returns-then-is_password : goal.returns-then-is_password
unfolding bind_to when◌then◌else◌
returns-then-is_password c = rw (c.in_ok-request.ensures.read.0, c.in_ok-request.ensures.read.1, ← (held c.octets_of.ensures), ← (held c.octets_of-2.ensures), sym c.find_named-found.ensures.0 ∙ c.in-Some.is, ← (held c.octets_of-3.ensures), ← (held c.record_of-record.ensures.0), sym c.is_password.ensures ∙ c.if-is_password.true, c.leg_of.ensures)

pub returns-else-is_password : goal.returns-else-is_password
unfolding bind_to when◌then◌else◌
returns-else-is_password c = rw (c.in_ok-request.ensures.read.0, c.in_ok-request.ensures.read.1, ← (held c.octets_of.ensures), ← (held c.octets_of-2.ensures), sym c.find_named-found.ensures.0 ∙ c.in-Some.is, ← (held c.octets_of-3.ensures), ← (held c.record_of-record.ensures.0), sym c.is_password.ensures ∙ c.if-is_password.false)
