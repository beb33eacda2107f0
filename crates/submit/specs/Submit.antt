-- submit_sm (document 01, "Effects").
use Rattle.std.specs.Prelude.{ℕ, ◌+◌, not, List, eqb, Option, Some, None, Result, Ok, Err}
use Rattle.octets.specs.Choice.{when◌then◌else◌}
use Rattle.wire.specs.Status.{system_error, invalid_destination, queue_full, code}
use Rattle.wire.specs.declared.status.Status.{Status}
use Rattle.wire.specs.Fields.{octets_of}
use Rattle.requests.specs.Submit.{submit_of}
use Rattle.requests.specs.declared.submit.Submit.{Submit}
use Rattle.records.specs.Layout.{id_of}
use Rattle.store.specs.Places.{record_at, on_place, on_found}
use Rattle.store.specs.Search.{pair_place, new_place}
use Rattle.changes.specs.Change.{new_record, retexted}
use Rattle.changes.specs.declared.Fields.{Fields}
use Rattle.submit.specs.declared.Given.{Given}
use Rattle.source.specs.Source.{no_address, source_for}

-- what a submission gives: the status, the id returned, and the account's part and last id afterwards
pub record Submitted : Type 0 where
  pub status : ℕ
  pub id : Option ℕ
  pub part : List ℕ
  pub last : ℕ

-- neither the part nor the last id changes
abbrev pub refused : ℕ → List ℕ → ℕ → Submitted
refused status part last = record { status = status; id = None; part = part; last = last }

abbrev pub fields_of : List ℕ → Submit → Fields
fields_of source s =
    record {
      source = source;
      destination = s.destination.octets;
      esm = s.esm;
      protocol = s.protocol;
      priority = s.priority;
      schedule = s.schedule.octets;
      validity = s.validity.octets;
      registered = s.registered;
      coding = s.coding;
      default = s.default;
    }

-- a new id, last plus 1, goes into the lowest empty place, else over the lowest-id record in state 2 to 5 that may be overwritten. Last id
-- 0xFFFFFFFF: status 8. Then no empty and no overwritable place (document 02, 1): 20. Neither issues an id
unfoldable pub added : List ℕ → Submit → List ℕ → List ℕ → ℕ → Submitted
added source s body part last =
    when eqb last 0xFFFFFFFF then refused system_error part last
    else on_found (new_place part)
    (λ k. record {
      status = 0;
      id = Some (last + 1);
      part = on_place (λ r. new_record (last + 1) (fields_of source s) (octets_of s.service body) (octets_of s.text body)) k part;
      last = last + 1;
    })
    (refused queue_full part last)

-- with the replace flag set, the lowest-id waiting record with equal source and destination
abbrev pub to_replace : List ℕ → Submit → List ℕ → Option ℕ
to_replace source s part = when eqb s.replace 1 then pair_place source s.destination.octets part else None

-- it gets the new text, length and default id, and its id is returned
unfoldable pub stored : List ℕ → Submit → List ℕ → List ℕ → ℕ → Submitted
stored source s body part last =
    on_found (to_replace source s part)
    (λ k. record {
      status = 0;
      id = Some (id_of (record_at k part));
      part = on_place (retexted s.default (octets_of s.text body)) k part;
      last = last;
    })
    (added source s body part last)

-- fields from left to right, octets left over, effect: an empty destination is 11
unfoldable pub submitted : List ℕ → List ℕ → List ℕ → ℕ → Submitted
submitted book body part last =
    let read = submit_of body in
    let s = read.request in
    when not (eqb read.status 0) then refused read.status part last
    else when no_address s.destination.octets then refused invalid_destination part last
    else stored (source_for book s.source.octets) s body part last

-- what the code answers, with the part beside it, where this was the last id
abbrev pub gave : ℕ → Result Given Status → List ℕ → Submitted
gave last (Ok g) part = record { status = 0; id = Some g.id; part = part; last = g.last }
gave last (Err status) part = refused (code status) part last
