-- The first PDU of the octets received (document 01, "From octets to a response"), and the header (002, 6.2): command_length, command_id,
-- command_status and sequence_number, four octets each, most significant first.
use Rattle.std.specs.Prelude.{ℕ, ◌≤◌, ◌||◌, List, length, ltb}
use Rattle.octets.specs.Choice.{when◌then◌else◌}
use Rattle.octets.specs.Stretch.{part}
use Rattle.octets.specs.Number.{number}
use Rattle.wire.specs.declared.frame.Frame.{Frame}
use Rattle.wire.specs.declared.frame.Frame.TheVariants.{More, Malformed, Whole}
use Rattle.wire.specs.declared.frame.Header.{Header}

abbrev pub shortest_pdu : ℕ
shortest_pdu = 16

abbrev pub longest_pdu : ℕ
longest_pdu = 512

abbrev pub command_length : List ℕ → ℕ
command_length octets = number (part 0 4 octets)

unfoldable pub frame_of : List ℕ → Frame
frame_of octets =
    when ltb (length octets) 4 then More
    else when ltb (command_length octets) shortest_pdu || ltb longest_pdu (command_length octets) then Malformed
    else when ltb (length octets) (command_length octets) then More
    else Whole (command_length octets)

-- a whole PDU has a header and stands in the octets
abbrev pub Framed : List ℕ → Frame → Type 0
Framed octets More = Unit
Framed octets Malformed = Unit
Framed octets (Whole n) = (shortest_pdu ≤ n) × (n ≤ length octets)

-- a request's own status field is ignored; a response's counts
unfoldable pub header_of : List ℕ → Header
header_of pdu = record { command = number (part 4 4 pdu); status = number (part 8 4 pdu); sequence = number (part 12 4 pdu) }
