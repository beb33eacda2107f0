-- Octets on an open session (document 01, "From octets to a response" and "Effects"): it has no account, and the table has no say.
use Rattle.std.specs.Prelude.{ℕ, Bool, true, false, not, List, eqb, length, take, drop, None, Result, Ok, Err}
use Rattle.octets.specs.Choice.{when◌then◌else◌}
use Rattle.wire.specs.Status.{invalid_command_id, invalid_bind_status, invalid_password, code}
use Rattle.wire.specs.declared.status.Status.{Status}
use Rattle.wire.specs.Frame.{frame_of, header_of}
use Rattle.wire.specs.Command.{Command, BindReceiver, BindTransmitter, QuerySm, SubmitSm, Unbind, ReplaceSm, CancelSm, EnquireLink, Response, Unknown, response_to, command_of}
use Rattle.wire.specs.Fields.{octets_of}
use Rattle.answers.specs.Reply.{generic_nak, no_body, bind_body, submit_body, no_query}
use Rattle.wire.specs.declared.frame.Frame.{Frame}
use Rattle.wire.specs.declared.frame.Frame.TheVariants.{More, Malformed, Whole}
use Rattle.requests.specs.Bind.{bind_of}
use Rattle.requests.specs.Plain.{plain_of}
use Rattle.records.specs.Book.{book_record, password_is}
use Rattle.store.specs.Search.{named_place}
use Rattle.store.specs.Places.{on_found}
use Rattle.session.specs.declared.Entry.{Entry}
use Rattle.session.specs.declared.Entry.TheVariants.{Open, Transmitter, Receiver, Ended}
use Rattle.session.specs.declared.refusal.Refusal.{Refusal}
use Rattle.session.specs.Refusal.{number_of}
use Rattle.isolation.specs.Platform.{Front}
use Rattle.open.specs.declared.Fronted.{Fronted}
use Rattle.answers.specs.Answer.{Octets, Answer, taken, replied_to, silent, nak_length}

-- ---- bind: the lowest used, well-formed book record with equal system_id and system_type; no such record or an unequal password: 13

pub record Bound : Type 0 where
  pub status : ℕ
  pub entry : Entry

abbrev pub not_bound : ℕ → Bound
not_bound status = record { status = status; entry = Open }

-- a receiver or a transmitter of account a
abbrev pub leg_of : Bool → ℕ → Entry
leg_of true a = Receiver a
leg_of false a = Transmitter a

unfoldable pub bind_to : Bool → List ℕ → List ℕ → Bound
bind_to receiver book body =
    let read = bind_of body in
    let b = read.request in
    when not (eqb read.status 0) then not_bound read.status
    else on_found (named_place (octets_of b.system body) (octets_of b.kind body) book)
    (λ a. when password_is (octets_of b.password body) (book_record a book) then record { status = 0; entry = leg_of receiver a } else not_bound invalid_password)
    (not_bound invalid_password)

-- ---- each request

abbrev pub stays : Answer → Front Answer
stays answer = record { answer = answer; after = Open }

unfoldable pub open_bind : Bool → ℕ → List ℕ → ℕ → ℕ → List ℕ → List ℕ → Front Answer
open_bind receiver id book n sequence body space =
    let b = bind_to receiver book body in
    record { answer = replied_to n id b.status sequence bind_body space; after = b.entry }

-- a PDU of n octets; the binds need open; enquire_link suits any live session; the others need a bound session, else 4
module _ (book : List ℕ) (n sequence : ℕ) (body space : List ℕ) where
  abbrev pub open_command : Command → Front Answer
  open_command BindReceiver = open_bind true (response_to 1) book n sequence body space
  open_command BindTransmitter = open_bind false (response_to 2) book n sequence body space
  open_command QuerySm = stays (replied_to n (response_to 3) invalid_bind_status sequence no_query space)
  open_command SubmitSm = stays (replied_to n (response_to 4) invalid_bind_status sequence (submit_body None) space)
  open_command Unbind = stays (replied_to n (response_to 6) invalid_bind_status sequence no_body space)
  open_command ReplaceSm = stays (replied_to n (response_to 7) invalid_bind_status sequence no_body space)
  open_command CancelSm = stays (replied_to n (response_to 8) invalid_bind_status sequence no_body space)
  open_command EnquireLink = stays (replied_to n (response_to 0x15) (plain_of body) sequence no_body space)
  open_command Response = stays (silent n space)
  open_command Unknown = stays (replied_to n generic_nak invalid_command_id sequence no_body space)

abbrev pub open_pdu : List ℕ → List ℕ → List ℕ → Front Answer
open_pdu book pdu space =
    let h = header_of pdu in
    open_command book (length pdu) h.sequence (drop 16 pdu) space (command_of h.command)

abbrev pub open_frame : List ℕ → List ℕ → List ℕ → Frame → Front Answer
open_frame book octets space More = stays (taken 1 0 0 space)
open_frame book octets space Malformed = record { answer = nak_length space; after = Ended }
open_frame book octets space (Whole n) = open_pdu book (take n octets) space

unfoldable pub on_open : List ℕ → Octets → Front Answer
on_open book x = open_frame book x.octets x.space (frame_of x.octets)

-- what the code gives, as that: of a bind, of a PDU, and of the octets
abbrev pub binds : Result Entry Status → Bound
binds (Ok entry) = record { status = 0; entry = entry }
binds (Err status) = not_bound (code status)

abbrev pub answers : Fronted → List ℕ → Front Answer
answers r space = record { answer = taken 0 r.consumed r.written space; after = r.entry }

abbrev pub fronts : Result Fronted Refusal → List ℕ → Front Answer
fronts (Ok r) space = answers r space
fronts (Err refusal) space = stays (taken (number_of refusal) 0 0 space)
