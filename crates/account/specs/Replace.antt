-- replace_sm (document 01, "Effects"): unknown or empty id 12; source differs or not waiting 19.
use Rattle.std.specs.Prelude.{ℕ, not, ◌&&◌, List, eqb}
use Rattle.octets.specs.Choice.{when◌then◌else◌}
use Rattle.wire.specs.Status.{invalid_message_id, cannot_replace}
use Rattle.wire.specs.Fields.{octets_of}
use Rattle.requests.specs.Replace.{replace_of}
use Rattle.requests.specs.declared.replace.Replace.{Replace}
use Rattle.records.specs.Layout.{source_of}
use Rattle.records.specs.Book.{same_address}
use Rattle.store.specs.Places.{record_at, on_place, on_found}
use Rattle.store.specs.Search.{waiting}
use Rattle.changes.specs.Change.{corrected}
use Rattle.changes.specs.declared.Correction.{Correction}
use Rattle.source.specs.Source.{source_for, known}
use Rattle.account.specs.Cancel.{Changed, changed}

abbrev pub correction_of : Replace → Correction
correction_of r =
    record { schedule = r.schedule.octets; validity = r.validity.octets; registered = r.registered; default = r.default }

-- non-empty times replace the stored ones; flag, default id, length and text always do
unfoldable pub replaced_in : List ℕ → Replace → List ℕ → List ℕ → Changed
replaced_in source r body part =
    on_found (known r.id part)
    (λ k. when same_address (source_of (record_at k part)) source && waiting (record_at k part)
    then changed 0 (on_place (corrected (correction_of r) (octets_of r.text body)) k part)
    else changed cannot_replace part)
    (changed invalid_message_id part)

unfoldable pub replaced : List ℕ → List ℕ → List ℕ → Changed
replaced book body part =
    let read = replace_of body in
    let r = read.request in
    when not (eqb read.status 0) then changed read.status part else replaced_in (source_for book r.source.octets) r body part
