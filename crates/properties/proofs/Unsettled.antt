-- A PDU that isn't a response settles nothing: the session's receipt and the account's part stay as they were. Assumes nothing.
use mathlib.Core.Path.{◌≡◌, refl, ap, ◌∙◌}
use mathlib.Core.Bool.{◌&&◌}
use mathlib.Core.List.{List}
use Prim.Native.Nat.{ℕ}
use lib.Dec.{eqb}
use borrow.Author.Tests.{eqb-true}
use Rattle.std.specs.Prelude.{Option, Some, None}
use Rattle.octets.specs.Choice.{when◌then◌else◌}
use Rattle.octets.proofs.StretchLaws.{and_left, if-cases}
use Rattle.wire.specs.Command.{Response, response_to, command_of}
use Rattle.wire.specs.declared.frame.Header.{Header}
use Rattle.session.specs.declared.Receipt.{Receipt}
use Rattle.receipts.specs.DeliverSm.{deliver_id}
use Rattle.receipts.specs.Settle.{Settled, settling, settled}

pub unsettled : (h : Header) (part : List ℕ) (receipt : Option Receipt) → (command_of h.command ≡ Response → ⊥) → settled h receipt part ≡ settling receipt part
unfolding settled command_of when◌then◌else◌
unsettled h part None other = refl
unsettled h part (Some r) other =
    let response = eqb h.command (response_to deliver_id) in
    let same = eqb h.sequence r.sequence in
    if-cases (λ (c : Settled). c ≡ settling (Some r) part) (response && same) _ _
    (λ t. absurd (other (ap command_of (eqb-true h.command (response_to deliver_id) (and_left response same t)) ∙ refl)))
    (λ _. refl)
