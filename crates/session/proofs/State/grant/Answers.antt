-- `session::State::grant` meets its contract. Assumes nothing.
use mathlib.Core.Path.{sym, ap, ◌∙◌}
use Rattle.session.specs.State.{issued}
use Rattle.session.specs.declared.State.{State}
use Rattle.session.proofs.ReceiptLaws.{granted-noted, granted-unheard}
use Rattle.session.proofs.State.grant.Goals as goal

pub returns-then-is_receiver_of : goal.returns-then-is_receiver_of
returns-then-is_receiver_of c =
    let g = c.args in
    ap (λ (st : State). issued st g.account g.last)
    (sym (granted-noted g.self g.account g.session (sym c.is_receiver_of.ensures ∙ c.if-is_receiver_of.true) g.receipt))

pub returns-else-is_receiver_of : goal.returns-else-is_receiver_of
returns-else-is_receiver_of c =
    let g = c.args in
    ap (λ (st : State). issued st g.account g.last)
    (sym (granted-unheard g.self g.account g.session (sym c.is_receiver_of.ensures ∙ c.if-is_receiver_of.false) g.receipt))
