-- No receipt is lost. A registered message that ends is marked, and so owed a receipt; its record stands as it is until a step acknowledges it; what is
-- owed and outstanding nowhere is written on request; and from a fresh platform, what is outstanding is owed, and on one session only.
use Rattle.std.specs.Prelude.{ℕ, ◌<◌, ◌≡◌, true, false, List, get_or, take, None}
use Rattle.wire.specs.Command.{response_to}
use Rattle.wire.specs.Frame.{frame_of, header_of}
use Rattle.wire.specs.declared.frame.Frame.TheVariants.{Whole}
use Rattle.octets.specs.Stretch.{among}
use Rattle.forms.specs.Class.{within}
use Rattle.records.specs.Layout.{places, state_of, id_of, registered_of}
use Rattle.records.specs.Record.{marked}
use Rattle.store.specs.Places.{record_at}
use Rattle.store.specs.Search.{waiting}
use Rattle.changes.specs.Change.{unmarked}
use Rattle.session.specs.State.{account_count, entry_at, receiver_of, receipts_of, held_ids, outstanding}
use Rattle.session.specs.declared.Entry.TheVariants.{Receiver}
use Rattle.receipts.specs.DeliverSm.{deliver_id}
use Rattle.isolation.specs.Platform.{World, part_of, fresh, Step, on}
use Rattle.isolation.specs.History.{after}
use Rattle.answers.specs.Answer.{Octets, Delivery, Call, taking, delivering, Question, number_of}
use Rattle.centre.specs.Centre.{centre, step}
use Rattle.properties.specs.Property1.{Right}

-- ---- the words

-- the record at place k of account a
abbrev pub record_in : World → ℕ → ℕ → List ℕ
record_in w a k = record_at k (part_of a w.table)

-- a receipt is owed for it
abbrev pub Owed : World → ℕ → ℕ → Type 0
Owed w a k = marked (record_in w a k) ≡ true

-- account a has a receipt for this id, with this sequence number, outstanding on session s
abbrev pub OutstandingOn : World → ℕ → ℕ → ℕ → ℕ → Type 0
OutstandingOn w a s id sequence = get_or (receipts_of w.state a) s None ≡ outstanding id sequence

-- octets on a receiver of account a: a deliver_sm_resp with status 0 and the sequence number of its outstanding receipt, which is for this id
pub record Acknowledges (w : World) (a id s : ℕ) (x : Octets) : Type 0 where
  pub receiver : entry_at w.state s ≡ Receiver a
  pub size : ℕ
  pub whole : frame_of x.octets ≡ Whole size
  pub response : (header_of (take size x.octets)).command ≡ response_to deliver_id
  pub accepted : (header_of (take size x.octets)).status ≡ 0
  pub outstanding : OutstandingOn w a s id (header_of (take size x.octets)).sequence

-- what a step does to the record at place k of account a: every octet of it stands, or the step acknowledges its receipt and takes the mark alone
pub data Faithful (book : List ℕ) (w : World) (a k : ℕ) : Step Call Question → Type 0 where
  stands : {st : Step Call Question} → record_in (step book w st).world a k ≡ record_in w a k → Faithful book w a k st
  acknowledged : {s : ℕ} {x : Octets} → Acknowledges w a (id_of (record_in w a k)) s x
      → record_in (step book w (on s (taking x))).world a k ≡ unmarked (record_in w a k) → Faithful book w a k (on s (taking x))

-- a marked record of account a has this id
pub record OwedFor (w : World) (a id : ℕ) : Type 0 where
  pub place : ℕ
  pub below : place < places
  pub owed : Owed w a place
  pub named : id_of (record_in w a place) ≡ id

-- ---- what is said of them

pub record NoneLost : Type 0 where
  -- over any step from any world: a waiting, registered message that the step ends is owed a receipt
  pub arises : (book : List ℕ) (w : World) (st : Step Call Question) (a k : ℕ) → a < account_count → k < places → waiting (record_in w a k) ≡ true
      → registered_of (record_in w a k) ≡ 1 → (let w' = (step book w st).world in
      within 2 5 (state_of (record_in w' a k)) ≡ true → Owed w' a k)
  -- a receipt that is owed stays so until it is acknowledged
  pub keeps : (book : List ℕ) (w : World) (st : Step Call Question) (a k : ℕ) → a < account_count → k < places → Owed w a k → Faithful book w a k st
  -- one that is owed and outstanding nowhere is not passed over for good: a receiver of the account with none outstanding gets a receipt
  pub written : (book : List ℕ) (w : World) (s : ℕ) (y : Delivery) (a k : ℕ) → Right book w (on s (delivering y))
      → receiver_of a (entry_at w.state s) ≡ true → k < places → Owed w a k → among (id_of (record_in w a k)) (held_ids w.state a) ≡ false
      → number_of (step book w (on s (delivering y))).answer ≡ 0
  -- over any history from fresh: an outstanding id is that of a marked record of the account
  pub owed : (book : List ℕ) (hs : List (Step Call Question)) (a s id sequence : ℕ) → a < account_count → (let w = after centre book fresh hs in
      OutstandingOn w a s id sequence → OwedFor w a id)
  -- and no two sessions of an account have the same one
  pub once : (book : List ℕ) (hs : List (Step Call Question)) (a s t id sequence other : ℕ) → a < account_count → (let w = after centre book fresh hs in
      OutstandingOn w a s id sequence → OutstandingOn w a t id other → s ≡ t)
