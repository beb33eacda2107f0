-- The receipt that is written on request to a session of an account (document 02, 1).
use Rattle.std.specs.Prelude.{ℕ, Bool, not, ◌||◌, List, Option, is_some, Some, Result, Ok, Err}
use Rattle.octets.specs.Choice.{when◌then◌else◌}
use Rattle.records.specs.Layout.{id_of}
use Rattle.store.specs.Places.{record_at, on_found}
use Rattle.store.specs.Search.{owed_place}
use Rattle.store.specs.Account.{account_ok}
use Rattle.session.specs.State.{outstanding}
use Rattle.session.specs.declared.Receipt.{Receipt}
use Rattle.session.specs.declared.refusal.Refusal.{Refusal}
use Rattle.session.specs.Refusal.{number_of}
use Rattle.answers.specs.Reply.{over}
use Rattle.answers.specs.Answer.{Delivery, Answer, delivered, refused_delivery}
use Rattle.receipts.specs.DeliverSm.{deliver_sm}
use Rattle.receipts.specs.declared.offer.Offer.{Offer}

-- the answer, and the session's receipt afterwards
pub record Offered : Type 0 where
  pub answer : Answer
  pub receipt : Option Receipt

-- the receipt for a record, outstanding from now on
unfoldable pub sent : Delivery → List ℕ → Offered
sent y r =
    let o = over (deliver_sm y.sequence r) y.space in
    record { answer = delivered 0 o.count o.space; receipt = outstanding (id_of r) y.sequence }

-- nothing is written, and what is outstanding stays so
abbrev pub refusing : Option Receipt → Delivery → ℕ → Offered
refusing receipt y number = record { answer = refused_delivery number y; receipt = receipt }

-- 9, then 12 not a receiver or one outstanding (one may be per session), 13 nothing owed; else for the lowest id owed, the ids that are outstanding
-- on the account's sessions passed over
unfoldable pub offered : Bool → List ℕ → ℕ → List ℕ → List ℕ → Option Receipt → Delivery → Offered
offered receiver book last part ids receipt y =
    when not (account_ok book last part) then refusing receipt y 9
    else when not receiver || is_some receipt then refusing receipt y 12
    else on_found (owed_place ids part) (λ k. sent y (record_at k part)) (refusing receipt y 13)

-- what the code gives, as that, for a session with this receipt
abbrev pub offers : Option Receipt → Result Offer Refusal → List ℕ → Offered
offers receipt (Ok o) space = record { answer = delivered 0 o.written space; receipt = Some o.receipt }
offers receipt (Err refusal) space = record { answer = delivered (number_of refusal) 0 space; receipt = receipt }
