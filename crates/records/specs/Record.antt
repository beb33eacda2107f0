-- When a message record is well formed (document 01, "The account book and the table"; document 02, 1).
use Rattle.std.specs.Prelude.{ℕ, Bool, not, ◌&&◌, ◌||◌, List, drop, eqb, leb}
use Rattle.octets.specs.Choice.{when◌then◌else◌}
use Rattle.octets.specs.Stretch.{part, zeros}
use Rattle.forms.specs.Class.{within}
use Rattle.forms.specs.Text.{longest_text}
use Rattle.forms.specs.Field.{is_field}
use Rattle.forms.specs.Time.{stored_time}
use Rattle.forms.specs.declared.text.Form.TheVariants.{Ascii, Address}
use Rattle.records.specs.Layout.{state_of, id_of, source_of, destination_of, service_of, priority_of, schedule_of, validity_of, registered_of, default_of, length_of, text_field_of, date_of, error_of, mark_of, spare_of}

-- an address that is given: ton and npi take any value
abbrev pub address_ok : List ℕ → Bool
address_ok address = is_field Address (part 2 20 address)

-- a time, or none
abbrev pub time_ok : List ℕ → Bool
time_ok t = zeros t || stored_time t

-- default id at most 100, length at most 140, not both given, unused text octets zero
unfoldable pub text_ok : List ℕ → Bool
text_ok r =
    leb (default_of r) 100
    && leb (length_of r) longest_text
    && (eqb (length_of r) 0 || eqb (default_of r) 0)
    && zeros (drop (length_of r) (text_field_of r))

-- every field passes the submission rules, both addresses given
unfoldable pub fields_ok : List ℕ → Bool
fields_ok r =
    address_ok (source_of r)
    && address_ok (destination_of r)
    && is_field Ascii (service_of r)
    && leb (priority_of r) 1
    && time_ok (schedule_of r)
    && time_ok (validity_of r)
    && leb (registered_of r) 1
    && text_ok r

-- the final date is a time, present exactly when the state is 2 to 5; the error code is 0 in states 1 and 4
unfoldable pub end_ok : List ℕ → Bool
end_ok r =
    (when eqb (state_of r) 1 then zeros (date_of r) else stored_time (date_of r))
    && (eqb (error_of r) 0 || not (eqb (state_of r) 1 || eqb (state_of r) 4))

-- a receipt is owed for the record
abbrev pub marked : List ℕ → Bool
marked r = eqb (mark_of r) 1

-- the mark is 1 or 0, and 0 where the record is unregistered or waiting
unfoldable pub mark_ok : List ℕ → Bool
mark_ok r = eqb (mark_of r) 0 || (marked r && eqb (registered_of r) 1 && within 2 5 (state_of r))

-- state 1 to 5, id in 1..last, and octets 251-255 zero
unfoldable pub message_ok : ℕ → List ℕ → Bool
message_ok last r =
    within 1 5 (state_of r)
    && within 1 last (id_of r)
    && fields_ok r
    && end_ok r
    && mark_ok r
    && zeros (spare_of r)

unfoldable pub record_ok : ℕ → List ℕ → Bool
record_ok last r = zeros r || message_ok last r
