-- cancel_sm (document 01, "Effects").
use Rattle.std.specs.Prelude.{ℕ, Bool, not, ◌&&◌, ◌||◌, List, eqb, None, Option, Some}
use Rattle.octets.specs.Choice.{when◌then◌else◌}
use Rattle.wire.specs.Status.{invalid_destination, invalid_message_id, cannot_cancel}
use Rattle.requests.specs.Cancel.{cancel_of}
use Rattle.records.specs.Layout.{places, source_of, destination_of}
use Rattle.records.specs.Book.{same_address}
use Rattle.store.specs.Places.{record_at, on_place, on_places, on_found}
use Rattle.store.specs.Search.{waiting, between, place_of, pair_place}
use Rattle.changes.specs.Change.{finished}
use Rattle.source.specs.Source.{no_address, source_for}

-- a status, and the account's part afterwards
pub record Changed : Type 0 where
  pub status : ℕ
  pub part : List ℕ

abbrev pub changed : ℕ → List ℕ → Changed
changed status part = record { status = status; part = part }

-- deleted records take the stamp as final date, error 0
abbrev pub deleted : List ℕ → List ℕ → List ℕ
deleted stamp r = finished 4 0 stamp r

-- the source is equal, a destination that is given is equal, and it is waiting
unfoldable pub cancellable : List ℕ → List ℕ → List ℕ → Bool
cancellable source destination r =
    same_address (source_of r) source && (no_address destination || same_address (destination_of r) destination) && waiting r

-- with an id: unknown 12; source differs, a non-empty destination differs, or not waiting: 17
unfoldable pub cancelled_one : ℕ → List ℕ → List ℕ → List ℕ → List ℕ → Changed
cancelled_one id source destination stamp part =
    on_found (place_of id part)
    (λ k. when cancellable source destination (record_at k part) then changed 0 (on_place (deleted stamp) k part) else changed cannot_cancel part)
    (changed invalid_message_id part)

unfoldable pub deleted_if : List ℕ → List ℕ → List ℕ → List ℕ → List ℕ
deleted_if source destination stamp r = when waiting r && between source destination r then deleted stamp r else r

-- with an empty id: empty destination 11; all waiting records with that source and destination are deleted, 17 if none
unfoldable pub cancelled_all : List ℕ → List ℕ → List ℕ → List ℕ → Changed
cancelled_all source destination stamp part =
    when no_address destination then changed invalid_destination part
    else on_found (pair_place source destination part)
    (λ k. changed 0 (on_places (deleted_if source destination stamp) places 0 part))
    (changed cannot_cancel part)

abbrev pub cancelled_by : Option ℕ → List ℕ → List ℕ → List ℕ → List ℕ → Changed
cancelled_by None source destination stamp part = cancelled_all source destination stamp part
cancelled_by (Some id) source destination stamp part = cancelled_one id source destination stamp part

unfoldable pub cancelled : List ℕ → List ℕ → List ℕ → List ℕ → Changed
cancelled book stamp body part =
    let read = cancel_of body in
    let c = read.request in
    when not (eqb read.status 0) then changed read.status part
    else cancelled_by c.id (source_for book c.source.octets) c.destination.octets stamp part
