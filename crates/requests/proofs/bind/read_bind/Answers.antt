-- `requests::bind::read_bind` meets its contract: the fields before the refused one rewrite, and behind it none is looked at. Assumes nothing.
use mathlib.Core.Path.{refl}
use Rattle.std.proofs.lemmas.Result.{err_from_is_err_and}
use Rattle.wire.proofs.FieldLaws.{octet-behind, text-behind, end-behind}
use Rattle.requests.specs.Bind.{bind_of}
use Rattle.requests.proofs.bind.read_bind.Goals as goal

pub returns-in_err-system-clause-read : goal.returns-in_err-system-clause-read
unfolding bind_of
returns-in_err-system-clause-read c =
    let p = err_from_is_err_and c.from_residual.result c.from_residual.ensures.1 in
    rw (p.1, p.2, ← c.of-fields.ensures.0, ← c.of-fields.ensures.1, c.in_err-system.ensures.read) (simp (octet-behind, text-behind, end-behind))

pub returns-in_err-password-clause-read : goal.returns-in_err-password-clause-read
unfolding bind_of
returns-in_err-password-clause-read c =
    let p = err_from_is_err_and c.from_residual-in_err-password.result c.from_residual-in_err-password.ensures.1 in
    rw (p.1, p.2, ← c.of-fields.ensures.0, ← c.of-fields.ensures.1, c.in_ok-system.ensures.read, ← c.in_ok-system.ensures.kept, c.in_err-password.ensures.read) (simp (octet-behind, text-behind, end-behind))

pub returns-in_err-kind-clause-read : goal.returns-in_err-kind-clause-read
unfolding bind_of
returns-in_err-kind-clause-read c =
    let p = err_from_is_err_and c.from_residual-in_err-kind.result c.from_residual-in_err-kind.ensures.1 in
    rw (p.1, p.2, ← c.of-fields.ensures.0, ← c.of-fields.ensures.1, c.in_ok-system.ensures.read, ← c.in_ok-system.ensures.kept, c.in_ok-password.ensures.read, ← c.in_ok-password.ensures.kept, c.in_err-kind.ensures.read) (simp (octet-behind, text-behind, end-behind))

pub returns-in_err-version-clause-read : goal.returns-in_err-version-clause-read
unfolding bind_of
returns-in_err-version-clause-read c =
    let p = err_from_is_err_and c.from_residual-in_err-version.result c.from_residual-in_err-version.ensures.1 in
    rw (p.1, p.2, ← c.of-fields.ensures.0, ← c.of-fields.ensures.1, c.in_ok-system.ensures.read, ← c.in_ok-system.ensures.kept, c.in_ok-password.ensures.read, ← c.in_ok-password.ensures.kept, c.in_ok-kind.ensures.read, ← c.in_ok-kind.ensures.kept, c.in_err-version.ensures.read) (simp (octet-behind, text-behind, end-behind))

pub returns-in_err-ton-clause-read : goal.returns-in_err-ton-clause-read
unfolding bind_of
returns-in_err-ton-clause-read c =
    let p = err_from_is_err_and c.from_residual-in_err-ton.result c.from_residual-in_err-ton.ensures.1 in
    rw (p.1, p.2, ← c.of-fields.ensures.0, ← c.of-fields.ensures.1, c.in_ok-system.ensures.read, ← c.in_ok-system.ensures.kept, c.in_ok-password.ensures.read, ← c.in_ok-password.ensures.kept, c.in_ok-kind.ensures.read, ← c.in_ok-kind.ensures.kept, c.in_ok-version.ensures.read, ← c.in_ok-version.ensures.kept, c.in_err-ton.ensures.read) (simp (octet-behind, text-behind, end-behind))

pub returns-in_err-npi-clause-read : goal.returns-in_err-npi-clause-read
unfolding bind_of
returns-in_err-npi-clause-read c =
    let p = err_from_is_err_and c.from_residual-in_err-npi.result c.from_residual-in_err-npi.ensures.1 in
    rw (p.1, p.2, ← c.of-fields.ensures.0, ← c.of-fields.ensures.1, c.in_ok-system.ensures.read, ← c.in_ok-system.ensures.kept, c.in_ok-password.ensures.read, ← c.in_ok-password.ensures.kept, c.in_ok-kind.ensures.read, ← c.in_ok-kind.ensures.kept, c.in_ok-version.ensures.read, ← c.in_ok-version.ensures.kept, c.in_ok-ton.ensures.read, ← c.in_ok-ton.ensures.kept, c.in_err-npi.ensures.read) (simp (text-behind, end-behind))

pub returns-in_err-range-clause-read : goal.returns-in_err-range-clause-read
unfolding bind_of
returns-in_err-range-clause-read c =
    let p = err_from_is_err_and c.from_residual-in_err-range.result c.from_residual-in_err-range.ensures.1 in
    rw (p.1, p.2, ← c.of-fields.ensures.0, ← c.of-fields.ensures.1, c.in_ok-system.ensures.read, ← c.in_ok-system.ensures.kept, c.in_ok-password.ensures.read, ← c.in_ok-password.ensures.kept, c.in_ok-kind.ensures.read, ← c.in_ok-kind.ensures.kept, c.in_ok-version.ensures.read, ← c.in_ok-version.ensures.kept, c.in_ok-ton.ensures.read, ← c.in_ok-ton.ensures.kept, c.in_ok-npi.ensures.read, ← c.in_ok-npi.ensures.kept, c.in_err-range.ensures.read) (simp end-behind)

pub returns-in_err-end-clause-read : goal.returns-in_err-end-clause-read
unfolding bind_of
returns-in_err-end-clause-read c =
    let p = err_from_is_err_and c.from_residual-in_err-end.result c.from_residual-in_err-end.ensures.1 in
    rw (p.1, p.2, ← c.of-fields.ensures.0, ← c.of-fields.ensures.1, c.in_ok-system.ensures.read, ← c.in_ok-system.ensures.kept, c.in_ok-password.ensures.read, ← c.in_ok-password.ensures.kept, c.in_ok-kind.ensures.read, ← c.in_ok-kind.ensures.kept, c.in_ok-version.ensures.read, ← c.in_ok-version.ensures.kept, c.in_ok-ton.ensures.read, ← c.in_ok-ton.ensures.kept, c.in_ok-npi.ensures.read, ← c.in_ok-npi.ensures.kept, c.in_ok-range.ensures.read, ← c.in_ok-range.ensures.kept) c.in_err-end.ensures

pub returns-clause-read : goal.returns-clause-read
unfolding bind_of
returns-clause-read c = rw (← c.of-fields.ensures.0, ← c.of-fields.ensures.1, c.in_ok-system.ensures.read, ← c.in_ok-system.ensures.kept, c.in_ok-password.ensures.read, ← c.in_ok-password.ensures.kept, c.in_ok-kind.ensures.read, ← c.in_ok-kind.ensures.kept, c.in_ok-version.ensures.read, ← c.in_ok-version.ensures.kept, c.in_ok-ton.ensures.read, ← c.in_ok-ton.ensures.kept, c.in_ok-npi.ensures.read, ← c.in_ok-npi.ensures.kept, c.in_ok-range.ensures.read, ← c.in_ok-range.ensures.kept) (c.in_ok-end.ensures, refl)
