-- `submit::submit` meets its contract. Assumes nothing.
use mathlib.Core.Path.{sym, ◌∙◌}
use Rattle.std.proofs.lemmas.Result.{err_from_is_err_and}
use Rattle.octets.specs.Choice.{when◌then◌else◌}
use Rattle.wire.proofs.StatusLaws.{code-not_zero}
use Rattle.submit.specs.Submit.{submitted}
use Rattle.submit.proofs.submit.Goals as goal

pub returns-in_err-s : goal.returns-in_err-s
unfolding submitted when◌then◌else◌
returns-in_err-s c =
    let p = err_from_is_err_and c.from_residual.result c.from_residual.ensures.1 in
    rw (p.1, p.2, c.in_err-s.ensures.read, code-not_zero c.in_err-s.field-0.0)

pub returns-then-is_none : goal.returns-then-is_none
unfolding submitted when◌then◌else◌
returns-then-is_none c = rw (c.in_ok-s.ensures.read.0, c.in_ok-s.ensures.read.1, sym c.is_none.ensures ∙ c.if-is_none.true)

pub store_in-requires : goal.store_in-requires
store_in-requires c = (c.requires.1, c.in_ok-s.ensures.inside)

pub returns : goal.returns
unfolding submitted when◌then◌else◌
returns c = rw (c.in_ok-s.ensures.read.0, c.in_ok-s.ensures.read.1, sym c.is_none.ensures ∙ c.if-is_none.false, ← c.source_for-source.ensures) c.store_in.ensures
