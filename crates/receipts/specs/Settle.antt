-- deliver_sm_resp (document 02, 1): what a response on a session makes of its outstanding receipt and of the account's part. Its body is not read.
use Rattle.std.specs.Prelude.{ℕ, ◌&&◌, List, eqb, Option, Some, None}
use Rattle.octets.specs.Choice.{when◌then◌else◌}
use Rattle.wire.specs.Command.{response_to}
use Rattle.wire.specs.declared.frame.Header.{Header}
use Rattle.store.specs.Places.{on_place, on_found}
use Rattle.store.specs.Search.{place_of}
use Rattle.changes.specs.Change.{unmarked}
use Rattle.session.specs.declared.Receipt.{Receipt}
use Rattle.receipts.specs.DeliverSm.{deliver_id}

-- the session's receipt and the account's part afterwards
pub record Settled : Type 0 where
  pub receipt : Option Receipt
  pub part : List ℕ

abbrev pub settling : Option Receipt → List ℕ → Settled
settling receipt part = record { receipt = receipt; part = part }

-- the mark of the account's record with this id is cleared, if it is there
unfoldable pub acknowledged : ℕ → List ℕ → List ℕ
acknowledged id part = on_found (place_of id part) (λ k. on_place unmarked k part) part

-- with the outstanding sequence, status 0 clears the mark, and another status makes it owed again; another sequence does nothing
unfoldable pub settled : Header → Option Receipt → List ℕ → Settled
settled h None part = settling None part
settled h (Some r) part =
    when eqb h.command (response_to deliver_id) && eqb h.sequence r.sequence
    then settling None (when eqb h.status 0 then acknowledged r.id part else part)
    else settling (Some r) part
