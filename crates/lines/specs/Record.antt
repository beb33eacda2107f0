-- A record of the input (document 01, "The printing program"): kind, session, length (two octets, high first), stamp 16, payload 512, zeros 12.
use Rattle.std.specs.Prelude.{ℕ, ◌+◌, ◌*◌, ◌≤◌, ◌≡◌, not, List, leb, eqb, length, get_or, Option, Some, None}
use Rattle.octets.specs.Choice.{when◌then◌else◌}
use Rattle.octets.specs.Stretch.{part}
use Rattle.octets.specs.Number.{number}
use Rattle.forms.specs.Time.{time_length}
use Rattle.answers.specs.Answer.{Outcome}
use Rattle.lines.specs.declared.record.Order.{Order}
use Rattle.lines.specs.declared.record.Order.TheVariants.{Open, Octets, Close}
use Rattle.lines.specs.declared.record.Order.TheVariants as O

abbrev pub record_size : ℕ
record_size = 544

abbrev pub payload_size : ℕ
payload_size = 512

abbrev pub kind_of : List ℕ → ℕ
kind_of r = get_or r 0 0

abbrev pub session_of : List ℕ → ℕ
session_of r = get_or r 1 0

abbrev pub length_of : List ℕ → ℕ
length_of r = get_or r 2 0 * 256 + get_or r 3 0

abbrev pub stamp_of : List ℕ → List ℕ
stamp_of r = part 4 time_length r

abbrev pub payload_of : List ℕ → List ℕ
payload_of r = part 20 (length_of r) r

-- an outcome's payload: account, id (4), state, error
abbrev pub account_of : List ℕ → ℕ
account_of r = get_or r 20 0

abbrev pub outcome_of : List ℕ → Outcome
outcome_of r = record { stamp = stamp_of r; id = number (part 21 4 r); state = get_or r 25 0; error = get_or r 26 0 }

-- kinds 0 open, 1 octets, 2 close, 3 outcome; none, so bad: an unknown kind, a kind 1 length above 512, an outcome length other than 7, a cut record
unfoldable pub order_of : List ℕ → Option Order
order_of r =
    when not (eqb (length r) record_size) then None
    else when eqb (kind_of r) 0 then Some Open
    else when eqb (kind_of r) 1 then (when leb (length_of r) payload_size then Some Octets else None)
    else when eqb (kind_of r) 2 then Some Close
    else when eqb (kind_of r) 3 then (when eqb (length_of r) 7 then Some O.Outcome else None)
    else None

-- what an order tells of its record
abbrev pub Readable : Option Order → List ℕ → Type 0
Readable (Some Open) r = length r ≡ record_size
Readable (Some Octets) r = (length r ≡ record_size) × (length_of r ≤ payload_size)
Readable (Some Close) r = length r ≡ record_size
Readable (Some O.Outcome) r = length r ≡ record_size
Readable None r = Unit
