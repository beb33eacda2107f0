-- query_sm (document 01, "Effects"): unknown or empty id, or another source: 12.
use Rattle.std.specs.Prelude.{ℕ, not, List, eqb, Some, None, Option, Result, Ok, Err}
use Rattle.octets.specs.Choice.{when◌then◌else◌}
use Rattle.wire.specs.Status.{invalid_message_id, code}
use Rattle.wire.specs.declared.status.Status.{Status}
use Rattle.requests.specs.Query.{query_of}
use Rattle.requests.specs.declared.query.Query.{Query}
use Rattle.records.specs.Layout.{source_of}
use Rattle.records.specs.Book.{same_address}
use Rattle.store.specs.Places.{record_at, on_found}
use Rattle.source.specs.Source.{source_for, known}

-- the status, and the place of the record asked for
pub record Asked : Type 0 where
  pub status : ℕ
  pub place : Option ℕ

abbrev pub refused : ℕ → Asked
refused status = record { status = status; place = None }

unfoldable pub looked_up : List ℕ → Query → List ℕ → Asked
looked_up book q part =
    on_found (known q.id part)
    (λ k. when same_address (source_of (record_at k part)) (source_for book q.source.octets) then record { status = 0; place = Some k } else refused invalid_message_id)
    (refused invalid_message_id)

unfoldable pub queried : List ℕ → List ℕ → List ℕ → Asked
queried book body part =
    let read = query_of body in
    when not (eqb read.status 0) then refused read.status else looked_up book read.request part

-- what the code answers, as that
abbrev pub asked : Result ℕ Status → Asked
asked (Ok k) = record { status = 0; place = Some k }
asked (Err status) = refused (code status)
