-- Every octet stream, in any session state, gets a defined answer, and every call returns (the first property): `step` of crate centre is defined
-- for every book, world and step, and the code of each call is proved to end with what `step` gives.
--
-- Here is which numbers there are, that a call with a wrong session, buffer, time stamp or stored record doesn't get 0, and what refusals leave
-- as it was: a call refused by number, all that it was lent; a request refused over the protocol, every stored message.
use Rattle.std.specs.Prelude.{ℕ, ◌≤◌, ◌<◌, ◌≡◌, Bool, true, false, List, [], ◌∷◌, length, get_or, None}
use Rattle.octets.specs.Stretch.{part, among}
use Rattle.octets.specs.Number.{number}
use Rattle.forms.specs.Time.{sent_time}
use Rattle.answers.specs.Reply.{space_needed}
use Rattle.records.specs.Book.{book_size, book_record}
use Rattle.store.specs.Account.{account_ok}
use Rattle.session.specs.State.{session_count, account_count, entry_at, last_at, is_receiver, receipts_of}
use Rattle.session.specs.declared.Entry.{Entry}
use Rattle.session.specs.declared.Entry.TheVariants.{Closed, Open, Transmitter, Receiver, Ended}
use Rattle.isolation.specs.History.{bound_to}
use Rattle.isolation.specs.Platform.{table_size, part_of, World, Step, opens, closes, on, of, unchanged}
use Rattle.answers.specs.Answer.{Octets, Call, taking, delivering, Question, outcome, pick, Answer, numbered, taken, delivered, picked, refused_call, refused_question, number_of}
use Rattle.receipts.specs.DeliverSm.{longest_delivery}
use Rattle.centre.specs.Centre.{centre, step}

-- a step's refusal: that number alone; on a session, with nothing consumed or written and the space as it was lent
abbrev pub refusal : Step Call Question → ℕ → Answer
refusal (opens s) n = numbered n
refusal (closes s) n = numbered n
refusal (on s x) n = refused_call n x
refusal (of a q) n = refused_question n q

-- how many octets are written, and the command_status that stands in octets 8 to 11 of the reply
abbrev pub written_of : Answer → ℕ
written_of (numbered n) = 0
written_of (taken n consumed written space) = written
written_of (delivered n written space) = written
written_of (picked k r) = 0

abbrev pub status_of : Answer → ℕ
status_of (numbered n) = 0
status_of (taken n consumed written space) = number (part 8 4 space)
status_of (delivered n written space) = number (part 8 4 space)
status_of (picked k r) = 0

-- the numbers of each kind of step
abbrev pub numbers_of : Step Call Question → List ℕ
numbers_of (opens s) = 0 ∷ 2 ∷ 6 ∷ []
numbers_of (closes s) = 0 ∷ 2 ∷ []
numbers_of (on s (taking x)) = 0 ∷ 1 ∷ 2 ∷ 3 ∷ 4 ∷ 5 ∷ 6 ∷ 9 ∷ []
numbers_of (on s (delivering y)) = 0 ∷ 2 ∷ 3 ∷ 4 ∷ 6 ∷ 9 ∷ 12 ∷ 13 ∷ []
numbers_of (of a (outcome x)) = 0 ∷ 3 ∷ 5 ∷ 7 ∷ 8 ∷ 9 ∷ 10 ∷ []
numbers_of (of a pick) = 0 ∷ 3 ∷ 7 ∷ 9 ∷ 11 ∷ []

-- account a is well formed
abbrev pub WellFormed : List ℕ → World → ℕ → Type 0
WellFormed book w a = account_ok (book_record a book) (last_at w.state a) (part_of a w.table) ≡ true

-- a session that octets can come on
abbrev pub is_live : Entry → Bool
is_live Closed = false
is_live Open = true
is_live (Transmitter a) = true
is_live (Receiver a) = true
is_live Ended = false

-- session, buffers, time stamp and stored records of a step are right; on a session the records are those of the account that it is bound to; a
-- receipt is written to a receiver on which none is outstanding
abbrev pub Right : List ℕ → World → Step Call Question → Type 0
Right book w (opens s) = (s < session_count) × (entry_at w.state s ≡ Closed)
Right book w (closes s) = s < session_count
Right book w (on s (taking x)) =
    (s < session_count) × (is_live (entry_at w.state s) ≡ true)
    × (length book ≡ book_size) × (length w.table ≡ table_size) × (space_needed ≤ length x.space) × (sent_time x.stamp ≡ true)
    × ((a : ℕ) → bound_to a (entry_at w.state s) ≡ true → (a < account_count) × WellFormed book w a)
Right book w (on s (delivering y)) =
    (s < session_count) × (is_receiver (entry_at w.state s) ≡ true)
    × (length book ≡ book_size) × (length w.table ≡ table_size) × (longest_delivery ≤ length y.space)
    × ((a : ℕ) → bound_to a (entry_at w.state s) ≡ true → (a < account_count) × WellFormed book w a × (get_or (receipts_of w.state a) s None ≡ None))
Right book w (of a (outcome x)) =
    (length book ≡ book_size) × (length w.table ≡ table_size) × (sent_time x.stamp ≡ true) × (a < account_count) × WellFormed book w a
Right book w (of a pick) = (length book ≡ book_size) × (length w.table ≡ table_size) × (a < account_count) × WellFormed book w a

pub record Property1 : Type 0 where
  -- one of the step's numbers; 0 only where all is right
  pub defined : (book : List ℕ) (w : World) (st : Step Call Question) → among (number_of (step book w st).answer) (numbers_of st) ≡ true
  pub right : (book : List ℕ) (w : World) (st : Step Call Question) → number_of (step book w st).answer ≡ 0 → Right book w st
  -- a number other than 0: the step's refusal, and the world unchanged
  pub refused : (book : List ℕ) (w : World) (st : Step Call Question) → (let r = step book w st in
      (number_of r.answer ≡ 0 → ⊥) → r ≡ unchanged centre w (refusal st (number_of r.answer)))
  -- a reply with a status other than 0: every stored message and every last id as they were
  pub kept : (book : List ℕ) (w : World) (s : ℕ) (x : Octets) → (let r = step book w (on s (taking x)) in
      (written_of r.answer ≡ 0 → ⊥) → (status_of r.answer ≡ 0 → ⊥)
      → (r.world.table ≡ w.table) × (r.world.state.lasts ≡ w.state.lasts))
