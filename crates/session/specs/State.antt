-- The state and what opening, closing, binding and unbinding make of it (document 01, "What the centre does" and "Numbers a caller gets"), and the
-- receipts that are outstanding (document 02, 1).
use Rattle.std.specs.Prelude.{ℕ, Bool, true, false, List, [], ◌∷◌, map, get_or, set, replicate, leb, eqb, Option, Some, None}
use Rattle.octets.specs.Choice.{when◌then◌else◌}
pub use Rattle.records.specs.Layout.{account_count}
use Rattle.session.specs.Refusal.{outcome_number}
use Rattle.session.specs.declared.Entry.{Entry}
use Rattle.session.specs.declared.Entry.TheVariants.{Closed, Open, Transmitter, Receiver, Ended}
use Rattle.session.specs.declared.Receipt.{Receipt}
use Rattle.session.specs.declared.Session.{Session}
use Rattle.session.specs.declared.State.{State}
use Rattle.session.specs.declared.Handed.{Handed}

abbrev pub session_count : ℕ
session_count = 16

-- a session that is opened, closed, bound or ended has no receipt outstanding
abbrev pub session_with : Entry → Session
session_with e = record { entry = e; receipt = None }

abbrev pub closed_session : Session
closed_session = session_with Closed

-- all start closed, all last ids at 0
abbrev pub fresh : State
fresh = record { sessions = replicate session_count closed_session; lasts = replicate account_count 0 }

abbrev pub entry_at : State → ℕ → Entry
entry_at st s = (get_or st.sessions s closed_session).entry

abbrev pub last_at : State → ℕ → ℕ
last_at st a = get_or st.lasts a 0

abbrev pub bound : State → ℕ → Entry → State
bound st s e = record { sessions = set st.sessions s (session_with e); lasts = st.lasts }

abbrev pub ended : State → ℕ → State
ended st s = bound st s Ended

abbrev pub issued : State → ℕ → ℕ → State
issued st a last = record { sessions = st.sessions; lasts = set st.lasts a last }

-- ---- receipts: only a receiver's counts

abbrev pub is_receiver : Entry → Bool
is_receiver Closed = false
is_receiver Open = false
is_receiver (Transmitter a) = false
is_receiver (Receiver a) = true
is_receiver Ended = false

abbrev pub receiver_of : ℕ → Entry → Bool
receiver_of a Closed = false
receiver_of a Open = false
receiver_of a (Transmitter b) = false
receiver_of a (Receiver b) = eqb b a
receiver_of a Ended = false

abbrev pub receipt_for : ℕ → Session → Option Receipt
receipt_for a ses = when receiver_of a ses.entry then ses.receipt else None

-- the receipt with this id and this sequence number
abbrev pub outstanding : ℕ → ℕ → Option Receipt
outstanding id sequence = Some (record { id = id; sequence = sequence })

-- the receipts of account a, session by session
abbrev pub receipts_of : State → ℕ → List (Option Receipt)
receipts_of st a = map (receipt_for a) st.sessions

-- the id that is outstanding, or 0, which no message has; its sequence number, or 0
abbrev pub held_id : Option Receipt → ℕ
held_id None = 0
held_id (Some r) = r.id

abbrev pub held_sequence : Option Receipt → ℕ
held_sequence None = 0
held_sequence (Some r) = r.sequence

abbrev pub held_ids : State → ℕ → List ℕ
held_ids st a = map held_id (receipts_of st a)

-- account a's receivers with these receipts, session by session; every other session as it was
abbrev pub granted_to : ℕ → Session → Option Receipt → Session
granted_to a ses r = when receiver_of a ses.entry then record { entry = ses.entry; receipt = r } else ses

unfoldable pub granting : ℕ → List Session → List (Option Receipt) → List Session
granting a [] rs = []
granting a (ses ∷ sessions) [] = granted_to a ses None ∷ granting a sessions []
granting a (ses ∷ sessions) (r ∷ rs) = granted_to a ses r ∷ granting a sessions rs

abbrev pub granted : State → ℕ → List (Option Receipt) → State
granted st a rs = record { sessions = granting a st.sessions rs; lasts = st.lasts }

-- ---- opening and closing: a number, and the state handed back

pub record Moved : Type 0 where
  pub number : ℕ
  pub state : State

abbrev pub moved : ℕ → State → Moved
moved number st = record { number = number; state = st }

abbrev pub opened_from : State → ℕ → Entry → Moved
opened_from st s Closed = moved 0 (bound st s Open)
opened_from st s Open = moved 6 st
opened_from st s (Transmitter a) = moved 6 st
opened_from st s (Receiver a) = moved 6 st
opened_from st s Ended = moved 6 st

-- opening tests 2, 6
unfoldable pub opened : State → ℕ → Moved
opened st s = when leb session_count s then moved 2 st else opened_from st s (entry_at st s)

-- closing tests 2; it succeeds from any entry and leaves closed
unfoldable pub closed : State → ℕ → Moved
closed st s = when leb session_count s then moved 2 st else moved 0 (bound st s Closed)

-- what the code gives, as that
abbrev pub moved_to : Handed Unit → Moved
moved_to h = moved (outcome_number h.outcome) h.state
