-- `account::cancel::cancel` meets its contract. Assumes nothing.
use Rattle.std.proofs.lemmas.Result.{err_from_is_err_and}
use Rattle.octets.specs.Choice.{when◌then◌else◌}
use Rattle.wire.proofs.StatusLaws.{code-not_zero}
use Rattle.account.specs.Cancel.{cancelled}
use Rattle.account.proofs.cancel.cancel.Goals as goal

pub returns-in_err-request : goal.returns-in_err-request
unfolding cancelled when◌then◌else◌
returns-in_err-request c =
    let p = err_from_is_err_and c.from_residual.result c.from_residual.ensures.1 in
    rw (p.1, p.2, c.in_err-request.ensures.read, code-not_zero c.in_err-request.field-0.0)

pub returns : goal.returns
unfolding cancelled when◌then◌else◌
returns c = rw (c.in_ok-request.ensures.read.0, c.in_ok-request.ensures.read.1, ← c.source_for-source.ensures) c.cancel_by.ensures
