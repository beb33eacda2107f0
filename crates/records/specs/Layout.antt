-- The table's layout (document 01, "The account book and the table"): its sizes, and where each field of a message record stands, said once.
use Rattle.std.specs.Prelude.{ℕ, ◌*◌, List, get_or}
use Rattle.octets.specs.Stretch.{part}
use Rattle.octets.specs.Number.{number}
use Rattle.forms.specs.Text.{longest_text}
use Rattle.forms.specs.Time.{time_length}
use Rattle.forms.specs.Field.{address_size}

abbrev pub record_size : ℕ
record_size = 256

abbrev pub places : ℕ
places = 16

-- an account's part of the table
abbrev pub part_size : ℕ
part_size = record_size * places

abbrev pub account_count : ℕ
account_count = 8

abbrev pub table_size : ℕ
table_size = part_size * account_count

-- where the fields start that are written by themselves
abbrev pub state_at : ℕ
state_at = 0

abbrev pub schedule_at : ℕ
schedule_at = 57

abbrev pub validity_at : ℕ
validity_at = 73

abbrev pub registered_at : ℕ
registered_at = 89

abbrev pub default_at : ℕ
default_at = 91

abbrev pub date_at : ℕ
date_at = 233

abbrev pub mark_at : ℕ
mark_at = 250

-- 0 empty, 1 waiting, 2 delivered, 3 expired, 4 deleted, 5 undeliverable
abbrev pub state_of : List ℕ → ℕ
state_of r = get_or r state_at 0

-- 1-4: id, most significant octet first
abbrev pub id_of : List ℕ → ℕ
id_of r = number (part 1 4 r)

-- 5, 6, 7-26: source ton, npi, address
abbrev pub source_of : List ℕ → List ℕ
source_of r = part 5 address_size r

-- 27, 28, 29-48: destination ton, npi, address
abbrev pub destination_of : List ℕ → List ℕ
destination_of r = part 27 address_size r

-- 49-53, 54, 55, 56: service_type, esm_class, protocol id, priority
abbrev pub service_of : List ℕ → List ℕ
service_of r = part 49 5 r

abbrev pub priority_of : List ℕ → ℕ
priority_of r = get_or r 56 0

-- 57-72, 73-88: schedule time, validity time
abbrev pub schedule_of : List ℕ → List ℕ
schedule_of r = part schedule_at time_length r

abbrev pub validity_of : List ℕ → List ℕ
validity_of r = part validity_at time_length r

-- 89, 90, 91: registered flag, data coding, default message id
abbrev pub registered_of : List ℕ → ℕ
registered_of r = get_or r registered_at 0

abbrev pub default_of : List ℕ → ℕ
default_of r = get_or r default_at 0

-- 92, 93-232: length, text
abbrev pub length_of : List ℕ → ℕ
length_of r = get_or r 92 0

abbrev pub text_field_of : List ℕ → List ℕ
text_field_of r = part 93 longest_text r

-- 233-248, 249, 250, 251-255: final date, error code, mark (document 02, 1), zero
abbrev pub date_of : List ℕ → List ℕ
date_of r = part date_at time_length r

abbrev pub error_of : List ℕ → ℕ
error_of r = get_or r 249 0

abbrev pub mark_of : List ℕ → ℕ
mark_of r = get_or r mark_at 0

abbrev pub spare_of : List ℕ → List ℕ
spare_of r = part 251 5 r
