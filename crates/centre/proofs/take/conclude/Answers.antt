-- `centre::take::conclude` meets its contract. Assumes nothing.
use mathlib.Core.Path.{sym, ap, ◌∙◌}
use Rattle.octets.specs.Choice.{when◌then◌else◌}
use Rattle.session.specs.State.{issued}
use Rattle.session.specs.declared.State.{State}
use Rattle.session.proofs.ReceiptLaws.{granted-ended}
use Rattle.centre.proofs.take.conclude.Goals as goal

pub returns-then-ends : goal.returns-then-ends
unfolding when◌then◌else◌
returns-then-ends c =
    let g = c.args in
    rw c.if-ends.true (c.issue.ensures ∙ ap (λ (st : State). issued st g.account g.last) (c.unbind-over.ensures ∙ sym (granted-ended g.state g.account g.session g.receipt)))

pub returns-else-ends : goal.returns-else-ends
unfolding when◌then◌else◌
returns-else-ends c = rw c.if-ends.false c.grant.ensures
