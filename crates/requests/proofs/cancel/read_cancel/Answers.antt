-- `requests::cancel::read_cancel` meets its contract: the fields before the refused one rewrite, and behind it none is looked at. Assumes nothing.
use mathlib.Core.Path.{refl}
use Rattle.std.proofs.lemmas.Result.{err_from_is_err_and}
use Rattle.wire.proofs.FieldLaws.{address-behind, id-behind, end-behind}
use Rattle.requests.specs.Cancel.{cancel_of}
use Rattle.requests.proofs.cancel.read_cancel.Goals as goal

pub returns-in_err-service-clause-read : goal.returns-in_err-service-clause-read
unfolding cancel_of
returns-in_err-service-clause-read c =
    let p = err_from_is_err_and c.from_residual.result c.from_residual.ensures.1 in
    rw (p.1, p.2, ← c.of-fields.ensures.0, ← c.of-fields.ensures.1, c.in_err-service.ensures.read) (simp (address-behind, id-behind, end-behind))

pub returns-in_err-id-clause-read : goal.returns-in_err-id-clause-read
unfolding cancel_of
returns-in_err-id-clause-read c =
    let p = err_from_is_err_and c.from_residual-in_err-id.result c.from_residual-in_err-id.ensures.1 in
    rw (p.1, p.2, ← c.of-fields.ensures.0, ← c.of-fields.ensures.1, c.in_ok-service.ensures.read, ← c.in_ok-service.ensures.kept, c.in_err-id.ensures.read) (simp (address-behind, end-behind))

pub returns-in_err-source-clause-read : goal.returns-in_err-source-clause-read
unfolding cancel_of
returns-in_err-source-clause-read c =
    let p = err_from_is_err_and c.from_residual-in_err-source.result c.from_residual-in_err-source.ensures.1 in
    rw (p.1, p.2, ← c.of-fields.ensures.0, ← c.of-fields.ensures.1, c.in_ok-service.ensures.read, ← c.in_ok-service.ensures.kept, c.in_ok-id.ensures.read, ← c.in_ok-id.ensures.kept, c.in_err-source.ensures.read) (simp (address-behind, end-behind))

pub returns-in_err-destination-clause-read : goal.returns-in_err-destination-clause-read
unfolding cancel_of
returns-in_err-destination-clause-read c =
    let p = err_from_is_err_and c.from_residual-in_err-destination.result c.from_residual-in_err-destination.ensures.1 in
    rw (p.1, p.2, ← c.of-fields.ensures.0, ← c.of-fields.ensures.1, c.in_ok-service.ensures.read, ← c.in_ok-service.ensures.kept, c.in_ok-id.ensures.read, ← c.in_ok-id.ensures.kept, c.in_ok-source.ensures.read, ← c.in_ok-source.ensures.kept, c.in_err-destination.ensures.read) (simp end-behind)

pub returns-in_err-end-clause-read : goal.returns-in_err-end-clause-read
unfolding cancel_of
returns-in_err-end-clause-read c =
    let p = err_from_is_err_and c.from_residual-in_err-end.result c.from_residual-in_err-end.ensures.1 in
    rw (p.1, p.2, ← c.of-fields.ensures.0, ← c.of-fields.ensures.1, c.in_ok-service.ensures.read, ← c.in_ok-service.ensures.kept, c.in_ok-id.ensures.read, ← c.in_ok-id.ensures.kept, c.in_ok-source.ensures.read, ← c.in_ok-source.ensures.kept, c.in_ok-destination.ensures.read, ← c.in_ok-destination.ensures.kept) c.in_err-end.ensures

pub returns-clause-read : goal.returns-clause-read
unfolding cancel_of
returns-clause-read c = rw (← c.of-fields.ensures.0, ← c.of-fields.ensures.1, c.in_ok-service.ensures.read, ← c.in_ok-service.ensures.kept, c.in_ok-id.ensures.read, ← c.in_ok-id.ensures.kept, c.in_ok-source.ensures.read, ← c.in_ok-source.ensures.kept, c.in_ok-destination.ensures.read, ← c.in_ok-destination.ensures.kept) (c.in_ok-end.ensures, refl)
