-- `account::query::query` meets its contract. Assumes nothing.
use Rattle.std.proofs.lemmas.Result.{err_from_is_err_and}
use Rattle.octets.specs.Choice.{when◌then◌else◌}
use Rattle.wire.proofs.StatusLaws.{code-not_zero}
use Rattle.account.specs.Query.{queried}
use Rattle.account.proofs.query.query.Goals as goal

pub returns-in_err-q : goal.returns-in_err-q
unfolding queried when◌then◌else◌
returns-in_err-q c =
    let p = err_from_is_err_and c.from_residual.result c.from_residual.ensures.1 in
    rw (p.1, p.2) (rw (c.in_err-q.ensures, code-not_zero c.in_err-q.field-0.0), tt)

pub returns : goal.returns
unfolding queried when◌then◌else◌
returns c = (rw (c.in_ok-q.ensures.0, c.in_ok-q.ensures.1) c.look_up.ensures.0, c.look_up.ensures.1)
