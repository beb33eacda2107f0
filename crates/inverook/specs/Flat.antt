-- The state as C holds it, and the state that it stands for.
use Rattle.std.specs.Prelude.{ℕ, List, [], ◌∷◌, map, get_or, eqb, not, ◌&&◌, Option, None}
use Rattle.octets.specs.Choice.{when◌then◌else◌}
use Rattle.session.specs.State.{closed_session, entry_at, is_receiver, held_id, held_sequence, outstanding}
use Rattle.session.specs.declared.Entry.{Entry}
use Rattle.session.specs.declared.Entry.TheVariants.{Closed, Open, Transmitter, Receiver, Ended}
use Rattle.session.specs.declared.Receipt.{Receipt}
use Rattle.session.specs.declared.Session.{Session}
use Rattle.session.specs.declared.State.{State}
use Rattle.inverook.specs.declared.flat.InverookState.{InverookState}

abbrev pub sessions : List ℕ
sessions = 0 ∷ 1 ∷ 2 ∷ 3 ∷ 4 ∷ 5 ∷ 6 ∷ 7 ∷ 8 ∷ 9 ∷ 10 ∷ 11 ∷ 12 ∷ 13 ∷ 14 ∷ 15 ∷ []

-- ---- from numbers: a kind above 4 counts as ended, and an account is looked at where the kind is 2 or 3

unfoldable pub entry_of : ℕ → ℕ → Entry
entry_of kind account =
    when eqb kind 0 then Closed
    else when eqb kind 1 then Open
    else when eqb kind 2 then Transmitter account
    else when eqb kind 3 then Receiver account
    else Ended

-- a receipt is looked at where the kind is 3 and the id is not 0
unfoldable pub receipt_of : ℕ → ℕ → ℕ → Option Receipt
receipt_of kind id sequence = when eqb kind 3 && not (eqb id 0) then outstanding id sequence else None

abbrev pub session_at : InverookState → ℕ → Session
session_at flat i =
    let kind = get_or flat.kinds i 0 in
    record { entry = entry_of kind (get_or flat.accounts i 0); receipt = receipt_of kind (get_or flat.receipts i 0) (get_or flat.sequences i 0) }

unfoldable pub state_of : InverookState → State
state_of flat = record { sessions = map (session_at flat) sessions; lasts = flat.lasts }

-- ---- to numbers: an account is 0 unless bound, an id and its sequence number unless outstanding

abbrev pub entry_kind : Entry → ℕ
entry_kind Closed = 0
entry_kind Open = 1
entry_kind (Transmitter a) = 2
entry_kind (Receiver a) = 3
entry_kind Ended = 4

abbrev pub entry_account : Entry → ℕ
entry_account Closed = 0
entry_account Open = 0
entry_account (Transmitter a) = a
entry_account (Receiver a) = a
entry_account Ended = 0

-- a receipt is told of a receiver alone
unfoldable pub told : Session → Option Receipt
told x = when is_receiver x.entry then x.receipt else None

-- session i in numbers
abbrev pub kind_at : State → ℕ → ℕ
kind_at st i = entry_kind (entry_at st i)

abbrev pub account_at : State → ℕ → ℕ
account_at st i = entry_account (entry_at st i)

abbrev pub id_at : State → ℕ → ℕ
id_at st i = held_id (told (get_or st.sessions i closed_session))

abbrev pub sequence_at : State → ℕ → ℕ
sequence_at st i = held_sequence (told (get_or st.sessions i closed_session))

unfoldable pub flat_of : State → InverookState
flat_of st =
    record {
      kinds = map (kind_at st) sessions;
      accounts = map (account_at st) sessions;
      lasts = st.lasts;
      receipts = map (id_at st) sessions;
      sequences = map (sequence_at st) sessions;
    }
