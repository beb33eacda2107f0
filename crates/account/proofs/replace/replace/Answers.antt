-- `account::replace::replace` meets its contract. Assumes nothing.
use Rattle.std.proofs.lemmas.Result.{err_from_is_err_and}
use Rattle.octets.specs.Choice.{when◌then◌else◌}
use Rattle.wire.proofs.StatusLaws.{code-not_zero}
use Rattle.account.specs.Replace.{replaced}
use Rattle.account.proofs.replace.replace.Goals as goal

pub returns-in_err-r : goal.returns-in_err-r
unfolding replaced when◌then◌else◌
returns-in_err-r c =
    let p = err_from_is_err_and c.from_residual.result c.from_residual.ensures.1 in
    rw (p.1, p.2, c.in_err-r.ensures.read, code-not_zero c.in_err-r.field-0.0)

pub replace_in-requires : goal.replace_in-requires
replace_in-requires c = (c.requires.1, c.in_ok-r.ensures.inside)

pub returns : goal.returns
unfolding replaced when◌then◌else◌
returns c = rw (c.in_ok-r.ensures.read.0, c.in_ok-r.ensures.read.1, ← c.source_for-source.ensures) c.replace_in.ensures
