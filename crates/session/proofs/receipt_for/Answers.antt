-- `session::receipt_for` meets its contract. Assumes nothing.
use mathlib.Core.Path.{sym, ◌∙◌}
use Rattle.octets.proofs.StretchLaws.{if-true, if-false}
use Rattle.session.proofs.receipt_for.Goals as goal

pub returns-then-is_receiver_of : goal.returns-then-is_receiver_of
returns-then-is_receiver_of c = sym (if-true _ _ _ (sym c.is_receiver_of.ensures ∙ c.if-is_receiver_of.true))

pub returns-else-is_receiver_of : goal.returns-else-is_receiver_of
returns-else-is_receiver_of c = sym (if-false _ _ _ (sym c.is_receiver_of.ensures ∙ c.if-is_receiver_of.false))
