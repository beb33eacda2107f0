-- The centre, as a machine of the platform: its `step` is what every public operation is proved to follow.
use Rattle.std.specs.Prelude.{ℕ, ◌≤◌, ◌≡◌, Bool, not, ◌||◌, List, map, ltb, eqb, length, get_or, set, None, Result, Ok, Err}
use Rattle.octets.specs.Choice.{when◌then◌else◌}
use Rattle.forms.specs.Time.{time_length, sent_time}
use Rattle.answers.specs.Reply.{space_needed}
use Rattle.records.specs.Book.{book_size, book_record}
use Rattle.session.specs.State.{receiver_of, held_id}
use Rattle.session.specs.declared.State.{State}
use Rattle.session.specs.State.{Moved}
use Rattle.isolation.specs.Platform.{World, Own, owning, Step, Front, Ran, Effect, Request, on_session, of_account, Machine, table_size}
use Rattle.isolation.specs.Platform as P
use Rattle.answers.specs.Answer.{Octets, Delivery, Call, taking, delivering, Question, outcome, pick, Answer, numbered, refused_delivery, refused_call, refused_question}
use Rattle.answers.specs.Answer as A
use Rattle.receipts.specs.DeliverSm.{longest_delivery}
use Rattle.receipts.specs.Offer.{offered}
use Rattle.open.specs.Open.{stays, on_open}
use Rattle.bound.specs.Bound.{is_transmitter, Hand, holding, keeping, on_bound}
use Rattle.centre.specs.Operations.{on_question}
use Rattle.session.specs.declared.Handed.{Handed}
use Rattle.session.specs.declared.refusal.Refusal.{Refusal}
use Rattle.session.specs.Refusal.{number_of}
use Rattle.centre.specs.declared.take.Taken.{Taken}

-- 3: book not 512 octets or table not 32,768
abbrev pub wrong_sizes : ℕ → ℕ → Bool
wrong_sizes book table = not (eqb book book_size) || not (eqb table table_size)

-- octets: 3, 4, 5, from the sizes of book, table and space, and the stamp
unfoldable pub octets_early : ℕ → ℕ → List ℕ → ℕ → ℕ
octets_early book table stamp space =
    when wrong_sizes book table then 3
    else when ltb space space_needed then 4
    else when not (sent_time stamp) then 5
    else 0

-- a receipt: 3, 4
unfoldable pub delivery_early : ℕ → ℕ → ℕ → ℕ
delivery_early book table space =
    when wrong_sizes book table then 3
    else when ltb space longest_delivery then 4
    else 0

abbrev pub early_call : List ℕ → ℕ → Call → ℕ
early_call book table (taking x) = octets_early (length book) table x.stamp (length x.space)
early_call book table (delivering y) = delivery_early (length book) table (length y.space)

-- outcome: 3, 5
unfoldable pub outcome_early : ℕ → ℕ → List ℕ → ℕ
outcome_early book table stamp =
    when wrong_sizes book table then 3
    else when not (sent_time stamp) then 5
    else 0

-- picking: 3
unfoldable pub pick_early : ℕ → ℕ → ℕ
pick_early book table = when wrong_sizes book table then 3 else 0

abbrev pub early_question : List ℕ → ℕ → Question → ℕ
early_question book table (outcome x) = outcome_early (length book) table x.stamp
early_question book table pick = pick_early (length book) table

-- ---- on an open session: octets; a receipt gets 12

abbrev pub on_front : List ℕ → Call → Front Answer
on_front book (taking x) = on_open book x
on_front book (delivering y) = stays (refused_delivery 12 y)

-- ---- on a bound session

-- what session s of an account has in hand, and what is the account's own once it was used
abbrev pub in_hand : ℕ → Own → Hand
in_hand s own = holding own.part own.last (get_or own.receipts s None)

abbrev pub returned : ℕ → Own → Hand → Own
returned s own hand = owning hand.stored.part hand.stored.last (set own.receipts s hand.receipt)

unfoldable pub on_octets : Bool → List ℕ → ℕ → Octets → Own → Effect Own Answer
on_octets transmitter book s x own =
    let e = on_bound transmitter book x (in_hand s own) in
    record { answer = e.answer; own = returned s own e.own; ends = e.ends }

-- a receipt is written for session s, and is outstanding on it
unfoldable pub on_delivery : Bool → List ℕ → ℕ → Delivery → Own → Effect Own Answer
on_delivery receiver book s y own =
    let hand = in_hand s own in
    let o = offered receiver book own.last own.part (map held_id own.receipts) hand.receipt y in
    keeping o.answer (returned s own (holding own.part own.last o.receipt))

-- ---- the machine: account a sees its own book record; on a session octets are taken and receipts written; of an account a question is asked

unfoldable pub act : List ℕ → ℕ → Request Call Question → Own → Effect Own Answer
act book a (on_session s entry (taking x)) own = on_octets (is_transmitter entry) (book_record a book) s x own
act book a (on_session s entry (delivering y)) own = on_delivery (receiver_of a entry) (book_record a book) s y own
act book a (of_account q) own = on_question (book_record a book) q own

abbrev pub centre : Machine
centre =
    record {
      Book = List ℕ;
      X = Call;
      Q = Question;
      R = Answer;
      numbered = numbered;
      refused_on = refused_call;
      refused_of = refused_question;
      early_on = early_call;
      early_of = early_question;
      front = on_front;
      act = act;
    }

abbrev pub step : List ℕ → World → Step Call Question → Ran Answer
step book w st = P.step centre book w st

-- ---- what the code gives, as what a step gives

abbrev pub world : State → List ℕ → World
world state table = record { state = state; table = table }

abbrev pub moves : Moved → List ℕ → Ran Answer
moves r table = record { answer = numbered r.number; world = world r.state table }

abbrev pub took : Result Taken Refusal → List ℕ → Answer
took (Ok t) space = A.taken 0 t.consumed t.written space
took (Err refusal) space = A.taken (number_of refusal) 0 0 space

abbrev pub takes : Handed Taken → List ℕ → List ℕ → Ran Answer
takes h table space = record { answer = took h.outcome space; world = world h.state table }

-- the table is not changed
abbrev pub gave_receipt : Result ℕ Refusal → List ℕ → Answer
gave_receipt (Ok written) space = A.delivered 0 written space
gave_receipt (Err refusal) space = A.delivered (number_of refusal) 0 space

abbrev pub delivers : Handed ℕ → List ℕ → List ℕ → Ran Answer
delivers h table space = record { answer = gave_receipt h.outcome space; world = world h.state table }

abbrev pub reports : ℕ → State → List ℕ → Ran Answer
reports number state table = record { answer = numbered number; world = world state table }

-- ---- what no early number tells of the arguments

pub record Fit (book table : ℕ) (stamp : List ℕ) (space : ℕ) : Type 0 where
  pub book_fits : book ≡ book_size
  pub table_fits : table ≡ table_size
  pub stamp_fits : length stamp ≡ time_length
  pub space_fits : space_needed ≤ space

pub record Fitting (book table space : ℕ) : Type 0 where
  pub book_fits : book ≡ book_size
  pub table_fits : table ≡ table_size
  pub space_fits : longest_delivery ≤ space
