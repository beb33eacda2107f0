-- What an effect of an account can come to besides a refusal, by name.
use Rattle.std.specs.Prelude.{ℕ, ◌+◌, true, List, Some}
use Rattle.wire.specs.Fields.{octets_of}
use Rattle.requests.specs.Submit.{submit_of}
use Rattle.requests.specs.Cancel.{cancel_of}
use Rattle.requests.specs.Replace.{replace_of}
use Rattle.requests.specs.declared.submit.Submit.{Submit}
use Rattle.requests.specs.declared.cancel.Cancel.{Cancel}
use Rattle.requests.specs.declared.replace.Replace.{Replace}
use Rattle.records.specs.Layout.{places, id_of}
use Rattle.store.specs.Places.{record_at, on_place, on_places}
use Rattle.changes.specs.Change.{new_record, retexted, corrected, finished, unmarked}
use Rattle.source.specs.Source.{source_for}
use Rattle.submit.specs.Submit.{Submitted, fields_of}
use Rattle.account.specs.Cancel.{Changed, changed, deleted, deleted_if}
use Rattle.account.specs.Replace.{correction_of}
use Rattle.account.specs.Outcome.{Reported, told}

-- ---- submit_sm

abbrev pub submission : List ℕ → Submit
submission body = (submit_of body).request

-- its source, the callback where none is given
abbrev pub submitter : List ℕ → List ℕ → List ℕ
submitter book body = source_for book (submission body).source.octets

-- the record at k gets the submission's text, length and default id
abbrev pub retexted_at : List ℕ → List ℕ → ℕ → ℕ → Submitted
retexted_at body part last k =
    record {
      status = 0;
      id = Some (id_of (record_at k part));
      part = on_place (retexted (submission body).default (octets_of (submission body).text body)) k part;
      last = last;
    }

-- the submission's record
abbrev pub submitted_record : List ℕ → List ℕ → ℕ → List ℕ
submitted_record book body id =
    new_record id (fields_of (submitter book body) (submission body)) (octets_of (submission body).service body) (octets_of (submission body).text body)

-- it goes to k, with the id last plus 1
abbrev pub added_at : List ℕ → List ℕ → List ℕ → ℕ → ℕ → Submitted
added_at book body part last k =
    record {
      status = 0;
      id = Some (last + 1);
      part = on_place (λ r. submitted_record book body (last + 1)) k part;
      last = last + 1;
    }

-- ---- cancel_sm

abbrev pub cancellation : List ℕ → Cancel
cancellation body = (cancel_of body).request

abbrev pub canceller : List ℕ → List ℕ → List ℕ
canceller book body = source_for book (cancellation body).source.octets

abbrev pub deleted_at : List ℕ → List ℕ → ℕ → Changed
deleted_at stamp part k = changed 0 (on_place (deleted stamp) k part)

-- every place: the record there is deleted if it is waiting between the two addresses
abbrev pub deleted_all : List ℕ → List ℕ → List ℕ → List ℕ → Changed
deleted_all book stamp body part =
    changed 0 (on_places (deleted_if (canceller book body) (cancellation body).destination.octets stamp) places 0 part)

-- ---- replace_sm

abbrev pub replacement : List ℕ → Replace
replacement body = (replace_of body).request

abbrev pub replacer : List ℕ → List ℕ → List ℕ
replacer book body = source_for book (replacement body).source.octets

abbrev pub corrected_at : List ℕ → List ℕ → ℕ → Changed
corrected_at body part k = changed 0 (on_place (corrected (correction_of (replacement body)) (octets_of (replacement body).text body)) k part)

-- ---- an outcome

abbrev pub finished_at : List ℕ → ℕ → ℕ → List ℕ → ℕ → Reported
finished_at stamp state error part k = told true (on_place (finished state error stamp) k part)

-- ---- a receipt acknowledged

abbrev pub unmarked_at : List ℕ → ℕ → List ℕ
unmarked_at part k = on_place unmarked k part
