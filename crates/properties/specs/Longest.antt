-- The longest reply is 44 octets, whatever is sent in whatever state, and the longest receipt 91.
use Rattle.std.specs.Prelude.{ℕ, ◌≤◌, List}
use Rattle.answers.specs.Reply.{space_needed}
use Rattle.isolation.specs.Platform.{World, on}
use Rattle.answers.specs.Answer.{Octets, Delivery, taking, delivering}
use Rattle.receipts.specs.DeliverSm.{longest_delivery}
use Rattle.centre.specs.Centre.{step}
use Rattle.properties.specs.Property1.{written_of}

pub record Longest : Type 0 where
  pub replies : (book : List ℕ) (w : World) (s : ℕ) (x : Octets) → written_of (step book w (on s (taking x))).answer ≤ space_needed
  pub receipts : (book : List ℕ) (w : World) (s : ℕ) (y : Delivery) → written_of (step book w (on s (delivering y))).answer ≤ longest_delivery
