-- `requests::submit::read_submit` meets its contract: the fields before the refused one rewrite, and behind it none is looked at. Assumes nothing.
use mathlib.Core.Path.{refl}
use Rattle.std.proofs.lemmas.Result.{err_from_is_err_and}
use Rattle.wire.proofs.FieldLaws.{address-behind, octet-behind, short-behind, time-behind, end-behind}
use Rattle.requests.specs.Submit.{submit_of}
use Rattle.requests.proofs.submit.read_submit.Goals as goal

pub returns-in_err-service-clause-read : goal.returns-in_err-service-clause-read
unfolding submit_of
returns-in_err-service-clause-read c =
    let p = err_from_is_err_and c.from_residual.result c.from_residual.ensures.1 in
    rw (p.1, p.2, ← c.of-fields.ensures.0, ← c.of-fields.ensures.1, c.in_err-service.ensures.read) (simp (address-behind, octet-behind, short-behind, time-behind, end-behind))

pub returns-in_err-source-clause-read : goal.returns-in_err-source-clause-read
unfolding submit_of
returns-in_err-source-clause-read c =
    let p = err_from_is_err_and c.from_residual-in_err-source.result c.from_residual-in_err-source.ensures.1 in
    rw (p.1, p.2, ← c.of-fields.ensures.0, ← c.of-fields.ensures.1, c.in_ok-service.ensures.read, ← c.in_ok-service.ensures.kept, c.in_err-source.ensures.read) (simp (address-behind, octet-behind, short-behind, time-behind, end-behind))

pub returns-in_err-destination-clause-read : goal.returns-in_err-destination-clause-read
unfolding submit_of
returns-in_err-destination-clause-read c =
    let p = err_from_is_err_and c.from_residual-in_err-destination.result c.from_residual-in_err-destination.ensures.1 in
    rw (p.1, p.2, ← c.of-fields.ensures.0, ← c.of-fields.ensures.1, c.in_ok-service.ensures.read, ← c.in_ok-service.ensures.kept, c.in_ok-source.ensures.read, ← c.in_ok-source.ensures.kept, c.in_err-destination.ensures.read) (simp (octet-behind, short-behind, time-behind, end-behind))

pub returns-in_err-esm-clause-read : goal.returns-in_err-esm-clause-read
unfolding submit_of
returns-in_err-esm-clause-read c =
    let p = err_from_is_err_and c.from_residual-in_err-esm.result c.from_residual-in_err-esm.ensures.1 in
    rw (p.1, p.2, ← c.of-fields.ensures.0, ← c.of-fields.ensures.1, c.in_ok-service.ensures.read, ← c.in_ok-service.ensures.kept, c.in_ok-source.ensures.read, ← c.in_ok-source.ensures.kept, c.in_ok-destination.ensures.read, ← c.in_ok-destination.ensures.kept, c.in_err-esm.ensures.read) (simp (octet-behind, short-behind, time-behind, end-behind))

pub returns-in_err-protocol-clause-read : goal.returns-in_err-protocol-clause-read
unfolding submit_of
returns-in_err-protocol-clause-read c =
    let p = err_from_is_err_and c.from_residual-in_err-protocol.result c.from_residual-in_err-protocol.ensures.1 in
    rw (p.1, p.2, ← c.of-fields.ensures.0, ← c.of-fields.ensures.1, c.in_ok-service.ensures.read, ← c.in_ok-service.ensures.kept, c.in_ok-source.ensures.read, ← c.in_ok-source.ensures.kept, c.in_ok-destination.ensures.read, ← c.in_ok-destination.ensures.kept, c.in_ok-esm.ensures.read, ← c.in_ok-esm.ensures.kept, c.in_err-protocol.ensures.read) (simp (octet-behind, short-behind, time-behind, end-behind))

pub returns-in_err-priority-clause-read : goal.returns-in_err-priority-clause-read
unfolding submit_of
returns-in_err-priority-clause-read c =
    let p = err_from_is_err_and c.from_residual-in_err-priority.result c.from_residual-in_err-priority.ensures.1 in
    rw (p.1, p.2, ← c.of-fields.ensures.0, ← c.of-fields.ensures.1, c.in_ok-service.ensures.read, ← c.in_ok-service.ensures.kept, c.in_ok-source.ensures.read, ← c.in_ok-source.ensures.kept, c.in_ok-destination.ensures.read, ← c.in_ok-destination.ensures.kept, c.in_ok-esm.ensures.read, ← c.in_ok-esm.ensures.kept, c.in_ok-protocol.ensures.read, ← c.in_ok-protocol.ensures.kept, c.in_err-priority.ensures.read) (simp (octet-behind, short-behind, time-behind, end-behind))

pub returns-in_err-schedule-clause-read : goal.returns-in_err-schedule-clause-read
unfolding submit_of
returns-in_err-schedule-clause-read c =
    let p = err_from_is_err_and c.from_residual-in_err-schedule.result c.from_residual-in_err-schedule.ensures.1 in
    rw (p.1, p.2, ← c.of-fields.ensures.0, ← c.of-fields.ensures.1, c.in_ok-service.ensures.read, ← c.in_ok-service.ensures.kept, c.in_ok-source.ensures.read, ← c.in_ok-source.ensures.kept, c.in_ok-destination.ensures.read, ← c.in_ok-destination.ensures.kept, c.in_ok-esm.ensures.read, ← c.in_ok-esm.ensures.kept, c.in_ok-protocol.ensures.read, ← c.in_ok-protocol.ensures.kept, c.in_ok-priority.ensures.read, ← c.in_ok-priority.ensures.kept, c.in_err-schedule.ensures.read) (simp (octet-behind, short-behind, time-behind, end-behind))

pub returns-in_err-validity-clause-read : goal.returns-in_err-validity-clause-read
unfolding submit_of
returns-in_err-validity-clause-read c =
    let p = err_from_is_err_and c.from_residual-in_err-validity.result c.from_residual-in_err-validity.ensures.1 in
    rw (p.1, p.2, ← c.of-fields.ensures.0, ← c.of-fields.ensures.1, c.in_ok-service.ensures.read, ← c.in_ok-service.ensures.kept, c.in_ok-source.ensures.read, ← c.in_ok-source.ensures.kept, c.in_ok-destination.ensures.read, ← c.in_ok-destination.ensures.kept, c.in_ok-esm.ensures.read, ← c.in_ok-esm.ensures.kept, c.in_ok-protocol.ensures.read, ← c.in_ok-protocol.ensures.kept, c.in_ok-priority.ensures.read, ← c.in_ok-priority.ensures.kept, c.in_ok-schedule.ensures.read, ← c.in_ok-schedule.ensures.kept, c.in_err-validity.ensures.read) (simp (octet-behind, short-behind, end-behind))

pub returns-in_err-registered-clause-read : goal.returns-in_err-registered-clause-read
unfolding submit_of
returns-in_err-registered-clause-read c =
    let p = err_from_is_err_and c.from_residual-in_err-registered.result c.from_residual-in_err-registered.ensures.1 in
    rw (p.1, p.2, ← c.of-fields.ensures.0, ← c.of-fields.ensures.1, c.in_ok-service.ensures.read, ← c.in_ok-service.ensures.kept, c.in_ok-source.ensures.read, ← c.in_ok-source.ensures.kept, c.in_ok-destination.ensures.read, ← c.in_ok-destination.ensures.kept, c.in_ok-esm.ensures.read, ← c.in_ok-esm.ensures.kept, c.in_ok-protocol.ensures.read, ← c.in_ok-protocol.ensures.kept, c.in_ok-priority.ensures.read, ← c.in_ok-priority.ensures.kept, c.in_ok-schedule.ensures.read, ← c.in_ok-schedule.ensures.kept, c.in_ok-validity.ensures.read, ← c.in_ok-validity.ensures.kept, c.in_err-registered.ensures.read) (simp (octet-behind, short-behind, end-behind))

pub returns-in_err-replace-clause-read : goal.returns-in_err-replace-clause-read
unfolding submit_of
returns-in_err-replace-clause-read c =
    let p = err_from_is_err_and c.from_residual-in_err-replace.result c.from_residual-in_err-replace.ensures.1 in
    rw (p.1, p.2, ← c.of-fields.ensures.0, ← c.of-fields.ensures.1, c.in_ok-service.ensures.read, ← c.in_ok-service.ensures.kept, c.in_ok-source.ensures.read, ← c.in_ok-source.ensures.kept, c.in_ok-destination.ensures.read, ← c.in_ok-destination.ensures.kept, c.in_ok-esm.ensures.read, ← c.in_ok-esm.ensures.kept, c.in_ok-protocol.ensures.read, ← c.in_ok-protocol.ensures.kept, c.in_ok-priority.ensures.read, ← c.in_ok-priority.ensures.kept, c.in_ok-schedule.ensures.read, ← c.in_ok-schedule.ensures.kept, c.in_ok-validity.ensures.read, ← c.in_ok-validity.ensures.kept, c.in_ok-registered.ensures.read, ← c.in_ok-registered.ensures.kept, c.in_err-replace.ensures.read) (simp (octet-behind, short-behind, end-behind))

pub returns-in_err-coding-clause-read : goal.returns-in_err-coding-clause-read
unfolding submit_of
returns-in_err-coding-clause-read c =
    let p = err_from_is_err_and c.from_residual-in_err-coding.result c.from_residual-in_err-coding.ensures.1 in
    rw (p.1, p.2, ← c.of-fields.ensures.0, ← c.of-fields.ensures.1, c.in_ok-service.ensures.read, ← c.in_ok-service.ensures.kept, c.in_ok-source.ensures.read, ← c.in_ok-source.ensures.kept, c.in_ok-destination.ensures.read, ← c.in_ok-destination.ensures.kept, c.in_ok-esm.ensures.read, ← c.in_ok-esm.ensures.kept, c.in_ok-protocol.ensures.read, ← c.in_ok-protocol.ensures.kept, c.in_ok-priority.ensures.read, ← c.in_ok-priority.ensures.kept, c.in_ok-schedule.ensures.read, ← c.in_ok-schedule.ensures.kept, c.in_ok-validity.ensures.read, ← c.in_ok-validity.ensures.kept, c.in_ok-registered.ensures.read, ← c.in_ok-registered.ensures.kept, c.in_ok-replace.ensures.read, ← c.in_ok-replace.ensures.kept, c.in_err-coding.ensures.read) (simp (octet-behind, short-behind, end-behind))

pub returns-in_err-default-clause-read : goal.returns-in_err-default-clause-read
unfolding submit_of
returns-in_err-default-clause-read c =
    let p = err_from_is_err_and c.from_residual-in_err-default.result c.from_residual-in_err-default.ensures.1 in
    rw (p.1, p.2, ← c.of-fields.ensures.0, ← c.of-fields.ensures.1, c.in_ok-service.ensures.read, ← c.in_ok-service.ensures.kept, c.in_ok-source.ensures.read, ← c.in_ok-source.ensures.kept, c.in_ok-destination.ensures.read, ← c.in_ok-destination.ensures.kept, c.in_ok-esm.ensures.read, ← c.in_ok-esm.ensures.kept, c.in_ok-protocol.ensures.read, ← c.in_ok-protocol.ensures.kept, c.in_ok-priority.ensures.read, ← c.in_ok-priority.ensures.kept, c.in_ok-schedule.ensures.read, ← c.in_ok-schedule.ensures.kept, c.in_ok-validity.ensures.read, ← c.in_ok-validity.ensures.kept, c.in_ok-registered.ensures.read, ← c.in_ok-registered.ensures.kept, c.in_ok-replace.ensures.read, ← c.in_ok-replace.ensures.kept, c.in_ok-coding.ensures.read, ← c.in_ok-coding.ensures.kept, c.in_err-default.ensures.read) (simp (short-behind, end-behind))

pub returns-in_err-text-clause-read : goal.returns-in_err-text-clause-read
unfolding submit_of
returns-in_err-text-clause-read c =
    let p = err_from_is_err_and c.from_residual-in_err-text.result c.from_residual-in_err-text.ensures.1 in
    rw (p.1, p.2, ← c.of-fields.ensures.0, ← c.of-fields.ensures.1, c.in_ok-service.ensures.read, ← c.in_ok-service.ensures.kept, c.in_ok-source.ensures.read, ← c.in_ok-source.ensures.kept, c.in_ok-destination.ensures.read, ← c.in_ok-destination.ensures.kept, c.in_ok-esm.ensures.read, ← c.in_ok-esm.ensures.kept, c.in_ok-protocol.ensures.read, ← c.in_ok-protocol.ensures.kept, c.in_ok-priority.ensures.read, ← c.in_ok-priority.ensures.kept, c.in_ok-schedule.ensures.read, ← c.in_ok-schedule.ensures.kept, c.in_ok-validity.ensures.read, ← c.in_ok-validity.ensures.kept, c.in_ok-registered.ensures.read, ← c.in_ok-registered.ensures.kept, c.in_ok-replace.ensures.read, ← c.in_ok-replace.ensures.kept, c.in_ok-coding.ensures.read, ← c.in_ok-coding.ensures.kept, c.in_ok-default.ensures.read, ← c.in_ok-default.ensures.kept, c.in_err-text.ensures.read) (simp end-behind)

pub returns-in_err-end-clause-read : goal.returns-in_err-end-clause-read
unfolding submit_of
returns-in_err-end-clause-read c =
    let p = err_from_is_err_and c.from_residual-in_err-end.result c.from_residual-in_err-end.ensures.1 in
    rw (p.1, p.2, ← c.of-fields.ensures.0, ← c.of-fields.ensures.1, c.in_ok-service.ensures.read, ← c.in_ok-service.ensures.kept, c.in_ok-source.ensures.read, ← c.in_ok-source.ensures.kept, c.in_ok-destination.ensures.read, ← c.in_ok-destination.ensures.kept, c.in_ok-esm.ensures.read, ← c.in_ok-esm.ensures.kept, c.in_ok-protocol.ensures.read, ← c.in_ok-protocol.ensures.kept, c.in_ok-priority.ensures.read, ← c.in_ok-priority.ensures.kept, c.in_ok-schedule.ensures.read, ← c.in_ok-schedule.ensures.kept, c.in_ok-validity.ensures.read, ← c.in_ok-validity.ensures.kept, c.in_ok-registered.ensures.read, ← c.in_ok-registered.ensures.kept, c.in_ok-replace.ensures.read, ← c.in_ok-replace.ensures.kept, c.in_ok-coding.ensures.read, ← c.in_ok-coding.ensures.kept, c.in_ok-default.ensures.read, ← c.in_ok-default.ensures.kept, c.in_ok-text.ensures.read, ← c.in_ok-text.ensures.kept) c.in_err-end.ensures

pub returns-clause-read : goal.returns-clause-read
unfolding submit_of
returns-clause-read c = rw (← c.of-fields.ensures.0, ← c.of-fields.ensures.1, c.in_ok-service.ensures.read, ← c.in_ok-service.ensures.kept, c.in_ok-source.ensures.read, ← c.in_ok-source.ensures.kept, c.in_ok-destination.ensures.read, ← c.in_ok-destination.ensures.kept, c.in_ok-esm.ensures.read, ← c.in_ok-esm.ensures.kept, c.in_ok-protocol.ensures.read, ← c.in_ok-protocol.ensures.kept, c.in_ok-priority.ensures.read, ← c.in_ok-priority.ensures.kept, c.in_ok-schedule.ensures.read, ← c.in_ok-schedule.ensures.kept, c.in_ok-validity.ensures.read, ← c.in_ok-validity.ensures.kept, c.in_ok-registered.ensures.read, ← c.in_ok-registered.ensures.kept, c.in_ok-replace.ensures.read, ← c.in_ok-replace.ensures.kept, c.in_ok-coding.ensures.read, ← c.in_ok-coding.ensures.kept, c.in_ok-default.ensures.read, ← c.in_ok-default.ensures.kept, c.in_ok-text.ensures.read, ← c.in_ok-text.ensures.kept) (c.in_ok-end.ensures, refl)
