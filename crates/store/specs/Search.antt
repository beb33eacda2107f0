-- What is looked for in an account's sixteen places (document 01, "Effects"; document 02, 1).
use Rattle.std.specs.Prelude.{ℕ, ◌+◌, Bool, not, ◌&&◌, List, eqb, Option, Some, None}
use Rattle.octets.specs.Choice.{when◌then◌else◌}
use Rattle.forms.specs.Class.{within}
use Rattle.records.specs.Layout.{account_count, state_of, id_of, source_of, destination_of, priority_of}
use Rattle.octets.specs.Rows.{rows}
use Rattle.octets.specs.Stretch.{among}
use Rattle.records.specs.Record.{marked}
use Rattle.records.specs.Book.{book_record_size, same_address, named}
use Rattle.store.specs.Places.{records, lowest}

abbrev pub is_empty : List ℕ → Bool
is_empty r = eqb (state_of r) 0

abbrev pub waiting : List ℕ → Bool
waiting r = eqb (state_of r) 1

-- a record in state 2 to 5 may be overwritten, unless a receipt is owed for it
abbrev pub overwritable : List ℕ → Bool
overwritable r = within 2 5 (state_of r) && not (marked r)

-- a receipt is owed for it, and its id is none of these, which are outstanding
abbrev pub owed : List ℕ → List ℕ → Bool
owed ids r = marked r && not (among (id_of r) ids)

abbrev pub has_id : ℕ → List ℕ → Bool
has_id id r = not (is_empty r) && eqb (id_of r) id

abbrev pub between : List ℕ → List ℕ → List ℕ → Bool
between source destination r = same_address (source_of r) source && same_address (destination_of r) destination

-- priority 1 before priority 0, then lowest id: ids have 32 bits
abbrev pub turn : List ℕ → ℕ
turn r = when eqb (priority_of r) 1 then id_of r else id_of r + 4294967296

-- ---- the searches

-- the record with this id
abbrev pub place_of : ℕ → List ℕ → Option ℕ
place_of id xs = lowest (has_id id) id_of (records xs)

-- the lowest-id waiting record with this source and this destination
abbrev pub pair_place : List ℕ → List ℕ → List ℕ → Option ℕ
pair_place source destination xs = lowest (λ r. waiting r && between source destination r) id_of (records xs)

-- the lowest empty place
abbrev pub empty_place : List ℕ → Option ℕ
empty_place xs = lowest is_empty (λ r. 0) (records xs)

-- the lowest-id record in state 2 to 5 that may be overwritten
abbrev pub finished_place : List ℕ → Option ℕ
finished_place xs = lowest overwritable id_of (records xs)

unfoldable pub or_else : Option ℕ → Option ℕ → Option ℕ
or_else (Some k) other = Some k
or_else None other = other

-- the lowest empty place, else the lowest-id record in state 2 to 5 that may be overwritten
abbrev pub new_place : List ℕ → Option ℕ
new_place xs = or_else (empty_place xs) (finished_place xs)

-- the next to pick
abbrev pub next_place : List ℕ → Option ℕ
next_place xs = lowest waiting turn (records xs)

-- the lowest id owed, those outstanding passed over
abbrev pub owed_place : List ℕ → List ℕ → Option ℕ
owed_place ids xs = lowest (owed ids) id_of (records xs)

-- the lowest used, well-formed book record with equal system_id and system_type
abbrev pub named_place : List ℕ → List ℕ → List ℕ → Option ℕ
named_place system kind book = lowest (named system kind) (λ r. 0) (rows book_record_size account_count book)
