-- The fields of a body and their status (document 01, "Fields and their status"), each read at a cursor.
use Rattle.std.specs.Prelude.{◌≡◌, ℕ, ◌+◌, ◌≤◌, ◌&&◌, List, ◌∷◌, length, get_or, take, drop, replicate, Result, Ok, Err, ltb, leb, eqb, Option}
use Rattle.octets.specs.Choice.{when◌then◌else◌}
use Rattle.octets.specs.Stretch.{part, padded}
use Rattle.octets.specs.Lent.{Lent, lent_part}
use Rattle.forms.specs.Class.{in_class, lead}
use Rattle.forms.specs.declared.class.Class.TheVariants.{NotNul}
use Rattle.forms.specs.declared.text.Form.{Form}
use Rattle.forms.specs.declared.text.Form.TheVariants.{AddressOrNone, MessageIdOrNone}
use Rattle.forms.specs.Text.{longest_text, empty, formed, message_id}
use Rattle.forms.specs.Time.{time_length, sent_time}
use Rattle.wire.specs.Status.{invalid_message_length, invalid_command_length, invalid_parameter, invalid_message_id}
use Rattle.wire.specs.Cursor.{Cursor, refused, refuse, beyond, not_both}
use Rattle.wire.specs.declared.fields.Fault.{Fault}
use Rattle.wire.specs.declared.fields.Fault.TheVariants.{Short, Bad}
use Rattle.wire.specs.declared.fields.Fields.{Fields}
use Rattle.wire.specs.declared.fields.Span.{Span}
use Rattle.wire.specs.declared.fields.Address.{Address}
use Rattle.wire.specs.declared.fields.Time.{Time}

-- a field's value, and the cursor behind it
pub record Read (A : Type 0) : Type 0 where
  pub value : A
  pub next : Cursor

-- ---- one octet, of at most `most`

abbrev pub no_octet : Cursor → Read ℕ
no_octet next = record { value = 0; next = next }

unfoldable pub octet_at : ℕ → ℕ → List ℕ → Cursor → Read ℕ
octet_at most bad body c =
    when refused c then no_octet c
    else when leb (length body) c.at then no_octet (refuse c invalid_command_length)
    else when ltb most (get_or body c.at 0) then no_octet (refuse c bad)
    else record { value = get_or body c.at 0; next = beyond c 1 }

-- ---- a text of at most `most` octets, its NUL among them. Status 2 comes first: fewer octets than the maximum are left and none is NUL.
-- No NUL within the maximum, or a bad character or form, is the field's own status.

abbrev pub no_span : Cursor → Read Span
no_span next = record { value = record { from = 0; len = 0 }; next = next }

-- the octets that may hold the text, and how many of them stand before the first NUL
abbrev pub window : ℕ → List ℕ → Cursor → List ℕ
window most body c = take most (drop c.at body)

abbrev pub until_nul : List ℕ → ℕ
until_nul octets = lead (in_class NotNul) octets

unfoldable pub text_at : Form → ℕ → ℕ → List ℕ → Cursor → Read Span
text_at form most bad body c =
    let w = window most body c in
    let n = until_nul w in
    when refused c then no_span c
    else when eqb n (length w) then no_span (refuse c (when ltb (length w) most then invalid_command_length else bad))
    else when formed form (take n w) then record { value = record { from = c.at; len = n }; next = beyond c (n + 1) }
    else no_span (refuse c bad)

-- a span lies in the body; the octets that it names
abbrev pub Inside : Span → List ℕ → Type 0
Inside span body = span.from + span.len ≤ length body

abbrev pub octets_of : Span → List ℕ → List ℕ
octets_of span body = part span.from span.len body

-- the same where they stand: as that part of the received octets, not a copy
abbrev pub span_part : Span → Lent → Lent
span_part span body = lent_part span.from span.len body

-- ---- an address: ton, npi, and the number in 20 octets, zeros behind it

unfoldable pub address_at : ℕ → List ℕ → Cursor → Read Address
address_at bad body c =
    let ton = octet_at 255 invalid_command_length body c in
    let npi = octet_at 255 invalid_command_length body ton.next in
    let number = text_at AddressOrNone 21 bad body npi.next in
    record {
      value = record { octets = ton.value ∷ npi.value ∷ padded 20 (octets_of number.value body) };
      next = number.next;
    }

-- ---- a message id

unfoldable pub id_at : List ℕ → Cursor → Read (Option ℕ)
id_at body c =
    let text = text_at MessageIdOrNone 9 invalid_message_id body c in
    record { value = message_id (octets_of text.value body); next = text.next }

-- ---- a time: one NUL, or 16 characters and NUL. A first octet that isn't NUL with fewer than 17 left is status 2.

abbrev pub no_time : Cursor → Read Time
no_time next = record { value = record { octets = replicate time_length 0 }; next = next }

unfoldable pub time_at : List ℕ → Cursor → Read Time
time_at body c =
    let left = drop c.at body in
    when refused c then no_time c
    else when empty left then no_time (refuse c invalid_command_length)
    else when eqb (get_or left 0 0) 0 then no_time (beyond c 1)
    else when ltb (length left) (time_length + 1) then no_time (refuse c invalid_command_length)
    else when sent_time (take time_length left) && eqb (get_or left time_length 0) 0
    then record { value = record { octets = take time_length left }; next = beyond c (time_length + 1) }
    else no_time (refuse c invalid_parameter)

-- ---- sm_length and the short message, as that part of the body. sm_length above 140: 1, then sm_length and default id both non-zero: 9.

unfoldable pub span_at : ℕ → List ℕ → Cursor → Read Span
span_at n body c =
    when refused c then no_span c
    else when ltb (length (drop c.at body)) n then no_span (refuse c invalid_command_length)
    else when eqb n 0 then no_span c
    else record { value = record { from = c.at; len = n }; next = beyond c n }

unfoldable pub short_at : ℕ → List ℕ → Cursor → Read Span
short_at default body c =
    let size = octet_at longest_text invalid_message_length body c in
    span_at size.value body (not_both size.value default invalid_parameter size.next)

-- ---- what the code answers of a field

-- where its reader stands
abbrev pub standing : Fields → Cursor
standing f = record { at = f.at; status = 0 }

-- fewer octets than the field has is status 2, a bad value the field's own status
abbrev pub status_of : ℕ → Fault → ℕ
status_of bad Short = invalid_command_length
status_of bad Bad = bad

-- the value, or the error whose status refuses the field; and the reader stands at the cursor behind it
abbrev pub Gives : {A E : Type 0} → (E → ℕ) → Result A E → Fields → Read A → Type 0
Gives status (Ok value) f read = read ≡ record { value = value; next = standing f }
Gives status (Err error) f read = read.next ≡ refuse (standing f) (status error)
