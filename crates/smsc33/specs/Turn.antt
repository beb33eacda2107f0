-- What one record does: the step of the centre that it asks for, and the line that tells its answer.
use Rattle.std.specs.Prelude.{ℕ, ◌≤◌, ◌≡◌, Bool, true, false, List, [], length, take, replicate, Option, Some, None, is_some}
use Rattle.std.specs.ControlFlow.{continue_value}
use Rattle.std.specs.declared.ops.ControlFlow.{ControlFlow}
use Rattle.std.specs.declared.ops.ControlFlow.TheVariants.{Continue, Break}
use Rattle.answers.specs.Reply.{space_needed}
use Rattle.isolation.specs.Platform.{World, Step, Ran}
use Rattle.answers.specs.Answer.{Answer, Call}
use Rattle.answers.specs.Answer as A
use Rattle.centre.specs.Centre.{step, world}
use Rattle.session.specs.declared.State.{State}
use Rattle.lines.specs.Record.{session_of, stamp_of, payload_of, account_of, outcome_of, order_of}
use Rattle.lines.specs.Line.{line, bad_record}
use Rattle.lines.specs.declared.record.Order.{Order}
use Rattle.lines.specs.declared.record.Order.TheVariants.{Open, Octets, Close, Outcome}
use Rattle.smsc33.specs.declared.turn.Turned.{Turned}

-- what is printed, the world afterwards, and whether the next record is read
pub record Told : Type 0 where
  pub text : List ℕ
  pub world : World
  pub goes_on : Bool

-- the consumed count is 0 for other kinds than octets
abbrev pub line_of : Answer → List ℕ
line_of (A.numbered n) = line n 0 []
line_of (A.taken n consumed written space) = line n consumed (take written space)
line_of (A.delivered n written space) = line n 0 (take written space)
line_of (A.picked k r) = line 0 0 []

-- a line, and the next record is read
abbrev pub told : List ℕ → World → Told
told text w = record { text = text; world = w; goes_on = true }

abbrev pub answered : Ran Answer → Told
answered x = told (line_of x.answer) x.world

abbrev pub stopped : World → Told
stopped w = record { text = bad_record; world = w; goes_on = false }

-- the response space is 44
abbrev pub zero_space : List ℕ
zero_space = replicate space_needed 0

abbrev pub ordered : Option Order → List ℕ → World → List ℕ → Told
ordered (Some Open) book w r = answered (step book w (Step.opens (session_of r)))
ordered (Some Octets) book w r =
    answered (step book w (Step.on (session_of r) (Call.taking (record { octets = payload_of r; stamp = stamp_of r; space = zero_space }))))
ordered (Some Close) book w r = answered (step book w (Step.closes (session_of r)))
ordered (Some Outcome) book w r = answered (step book w (Step.of (account_of r) (A.outcome (outcome_of r))))
ordered None book w r = stopped w

unfoldable pub turn_of : List ℕ → World → List ℕ → Told
turn_of book w r = ordered (order_of r) book w r

-- ---- what the code gives, as that

-- the state handed back, whether or not the next record is read
abbrev pub state_of : ControlFlow State State → State
state_of (Continue state) = state
state_of (Break state) = state

abbrev pub turned : Turned → List ℕ → List ℕ → Told
turned r table text = record { text = take r.length text; world = world (state_of r.flow) table; goes_on = is_some (continue_value r.flow) }

abbrev pub Fits : Turned → List ℕ → Type 0
Fits r text = (r.length ≤ length text) × (r.length ≡ length (take r.length text))
