-- Octets on a bound session (document 01, "From octets to a response" and "Effects"; document 02, 1): what is asked of one account, given its book
-- record, what it has stored (its part of the table, its last id), and the receipt that is outstanding on the session.
use Rattle.std.specs.Prelude.{ℕ, ◌-◌, Bool, true, false, List, eqb, length, take, drop, Option, None, Some, Result, Ok, Err}
use Rattle.octets.specs.Choice.{when◌then◌else◌}
use Rattle.forms.specs.Field.{text_of}
use Rattle.wire.specs.Status.{invalid_command_id, invalid_bind_status, already_bound}
use Rattle.wire.specs.Frame.{frame_of, header_of}
use Rattle.wire.specs.Command.{Command, BindReceiver, BindTransmitter, QuerySm, SubmitSm, Unbind, ReplaceSm, CancelSm, EnquireLink, Response, Unknown, response_to, command_of}
use Rattle.answers.specs.Reply.{generic_nak, no_body, bind_body, submit_body, query_body, no_query}
use Rattle.wire.specs.declared.frame.Header.{Header}
use Rattle.wire.specs.declared.frame.Frame.{Frame}
use Rattle.wire.specs.declared.frame.Frame.TheVariants.{More, Malformed, Whole}
use Rattle.requests.specs.Plain.{plain_of}
use Rattle.records.specs.Layout.{state_of, id_of, date_of, error_of}
use Rattle.store.specs.Places.{record_at, on_found}
use Rattle.store.specs.Account.{account_ok}
use Rattle.submit.specs.Submit.{submitted}
use Rattle.account.specs.Query.{queried}
use Rattle.account.specs.Cancel.{Changed, cancelled}
use Rattle.account.specs.Replace.{replaced}
use Rattle.session.specs.declared.Entry.{Entry}
use Rattle.session.specs.declared.Entry.TheVariants.{Closed, Open, Transmitter, Receiver, Ended}
use Rattle.session.specs.declared.Receipt.{Receipt}
use Rattle.session.specs.declared.refusal.Refusal.{Refusal}
use Rattle.session.specs.Refusal.{number_of}
use Rattle.receipts.specs.Settle.{settled}
use Rattle.isolation.specs.Platform.{Effect}
use Rattle.bound.specs.declared.Acted.{Acted}
use Rattle.bound.specs.declared.Handled.{Handled}
use Rattle.answers.specs.Answer.{Octets, Answer, taken, refused_octets, replied_to, silent, nak_length}

-- ---- what an account has stored, and what a request gives: status, reply body, what is stored afterwards, and whether the session ends

pub record Stored : Type 0 where
  pub part : List ℕ
  pub last : ℕ

abbrev pub storing : List ℕ → ℕ → Stored
storing p n = record { part = p; last = n }

pub record Turn : Type 0 where
  pub status : ℕ
  pub body : List ℕ
  pub stored : Stored
  pub ends : Bool

-- the session goes on
abbrev pub turning : ℕ → List ℕ → Stored → Turn
turning status body stored = record { status = status; body = body; stored = stored; ends = false }

-- the four need transmitter, else 4, and the account stays as it was
abbrev pub by_transmitter : Bool → List ℕ → Stored → Turn → Turn
by_transmitter transmitter body stored turn = when transmitter then turn else turning invalid_bind_status body stored

unfoldable pub submit_turn : Bool → List ℕ → List ℕ → Stored → Turn
submit_turn transmitter book body stored =
    let s = submitted book body stored.part stored.last in
    by_transmitter transmitter (submit_body None) stored (turning s.status (submit_body s.id) (storing s.part s.last))

-- wire values of message states: 002's 7.4 lists them in this order and gives no numbers; we count from 0
abbrev pub wire_state : ℕ → ℕ
wire_state state = state - 1

-- the id, final date or none, wire state, error code
abbrev pub found_body : List ℕ → List ℕ
found_body r = query_body (Some (id_of r)) (text_of (date_of r)) (wire_state (state_of r)) (error_of r)

unfoldable pub query_turn : Bool → List ℕ → List ℕ → Stored → Turn
query_turn transmitter book body stored =
    let q = queried book body stored.part in
    by_transmitter transmitter no_query stored
    (on_found q.place (λ k. turning q.status (found_body (record_at k stored.part)) stored) (turning q.status no_query stored))

-- the part changes, the last id stays
abbrev pub changing : Changed → Stored → Turn
changing c stored = turning c.status no_body (storing c.part stored.last)

unfoldable pub cancel_turn : Bool → List ℕ → List ℕ → List ℕ → Stored → Turn
cancel_turn transmitter book stamp body stored = by_transmitter transmitter no_body stored (changing (cancelled book stamp body stored.part) stored)

unfoldable pub replace_turn : Bool → List ℕ → List ℕ → Stored → Turn
replace_turn transmitter book body stored = by_transmitter transmitter no_body stored (changing (replaced book body stored.part) stored)

-- on success the session is ended
unfoldable pub unbind_turn : List ℕ → Stored → Turn
unbind_turn body stored = record { status = plain_of body; body = no_body; stored = stored; ends = eqb (plain_of body) 0 }

-- ---- the answer to a PDU of n octets

unfoldable pub replying : ℕ → ℕ → ℕ → Turn → List ℕ → Effect Stored Answer
replying n id sequence t space = record { answer = replied_to n id t.status sequence t.body space; own = t.stored; ends = t.ends }

-- the answer, what is kept afterwards, and a session that goes on
abbrev pub keeping : {O : Type 0} → Answer → O → Effect O Answer
keeping answer own = record { answer = answer; own = own; ends = false }

-- a PDU of n octets; the binds need open, else 5
module _ (transmitter : Bool) (book stamp : List ℕ) (n sequence : ℕ) (body space : List ℕ) (stored : Stored) where
  abbrev pub bound_command : Command → Effect Stored Answer
  bound_command BindReceiver = replying n (response_to 1) sequence (turning already_bound bind_body stored) space
  bound_command BindTransmitter = replying n (response_to 2) sequence (turning already_bound bind_body stored) space
  bound_command QuerySm = replying n (response_to 3) sequence (query_turn transmitter book body stored) space
  bound_command SubmitSm = replying n (response_to 4) sequence (submit_turn transmitter book body stored) space
  bound_command Unbind = replying n (response_to 6) sequence (unbind_turn body stored) space
  bound_command ReplaceSm = replying n (response_to 7) sequence (replace_turn transmitter book body stored) space
  bound_command CancelSm = replying n (response_to 8) sequence (cancel_turn transmitter book stamp body stored) space
  bound_command EnquireLink = replying n (response_to 0x15) sequence (turning (plain_of body) no_body stored) space
  bound_command Response = keeping (silent n space) stored
  bound_command Unknown = replying n generic_nak sequence (turning invalid_command_id no_body stored) space

abbrev pub bound_pdu : Bool → List ℕ → List ℕ → List ℕ → List ℕ → Stored → Effect Stored Answer
bound_pdu transmitter book stamp pdu space stored =
    let h = header_of pdu in
    bound_command transmitter book stamp (length pdu) h.sequence (drop 16 pdu) space stored (command_of h.command)

-- ---- the octets, with the session's receipt

-- what a bound session has in hand
pub record Hand : Type 0 where
  pub stored : Stored
  pub receipt : Option Receipt

abbrev pub holding : List ℕ → ℕ → Option Receipt → Hand
holding p n r = record { stored = storing p n; receipt = r }

-- a PDU is answered, and then may settle the receipt that is outstanding: of all PDUs only a deliver_sm_resp does, which has no answer
unfoldable pub settled_by : Header → Option Receipt → Effect Stored Answer → Effect Hand Answer
settled_by h receipt e =
    let c = settled h receipt e.own.part in
    record { answer = e.answer; own = holding c.part e.own.last c.receipt; ends = e.ends }

abbrev pub bound_frame : Bool → List ℕ → List ℕ → List ℕ → List ℕ → Frame → Hand → Effect Hand Answer
bound_frame transmitter book octets stamp space More hand = keeping (taken 1 0 0 space) hand
bound_frame transmitter book octets stamp space Malformed hand = record { answer = nak_length space; own = hand; ends = true }
bound_frame transmitter book octets stamp space (Whole n) hand =
    let pdu = take n octets in
    settled_by (header_of pdu) hand.receipt (bound_pdu transmitter book stamp pdu space hand.stored)

-- 9 for the bound account, then the octets
unfoldable pub on_bound : Bool → List ℕ → Octets → Hand → Effect Hand Answer
on_bound transmitter book x hand =
    when account_ok book hand.stored.last hand.stored.part
    then bound_frame transmitter book x.octets x.stamp x.space (frame_of x.octets) hand
    else keeping (refused_octets 9 x) hand

abbrev pub is_transmitter : Entry → Bool
is_transmitter Closed = false
is_transmitter Open = false
is_transmitter (Transmitter a) = true
is_transmitter (Receiver a) = false
is_transmitter Ended = false

-- what the code gives, as that: of a PDU, without and with the receipt, and of the octets, where this last id and this receipt were in hand
abbrev pub acts : Acted → List ℕ → List ℕ → Effect Stored Answer
acts r part space = record { answer = taken 0 r.consumed r.written space; own = storing part r.last; ends = r.ends }

abbrev pub handles : Handled → List ℕ → List ℕ → Effect Hand Answer
handles r part space =
    let e = acts r.acted part space in
    record { answer = e.answer; own = record { stored = e.own; receipt = r.receipt }; ends = e.ends }

abbrev pub comes_to : ℕ → Option Receipt → Result Handled Refusal → List ℕ → List ℕ → Effect Hand Answer
comes_to last receipt (Ok r) part space = handles r part space
comes_to last receipt (Err refusal) part space = keeping (taken (number_of refusal) 0 0 space) (holding part last receipt)
