-- What a command id asks for (document 01, "From octets to a response"; 002, 7.2).
use Rattle.std.specs.Prelude.{ℕ, ◌+◌, leb, eqb}
use Rattle.octets.specs.Choice.{when◌then◌else◌}

pub data Command : Type 0 where
  BindReceiver : Command
  BindTransmitter : Command
  QuerySm : Command
  SubmitSm : Command
  Unbind : Command
  ReplaceSm : Command
  CancelSm : Command
  EnquireLink : Command
  Response : Command
  Unknown : Command

abbrev pub first_response : ℕ
first_response = 0x80000000

-- a reply's id is the request's plus 0x80000000
abbrev pub response_to : ℕ → ℕ
response_to id = id + first_response

-- a command id with its top bit set is a response; the request ids; any other
unfoldable pub command_of : ℕ → Command
command_of id =
    when leb first_response id then Response
    else when eqb id 1 then BindReceiver
    else when eqb id 2 then BindTransmitter
    else when eqb id 3 then QuerySm
    else when eqb id 4 then SubmitSm
    else when eqb id 6 then Unbind
    else when eqb id 7 then ReplaceSm
    else when eqb id 8 then CancelSm
    else when eqb id 0x15 then EnquireLink
    else Unknown
