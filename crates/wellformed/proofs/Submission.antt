-- The record of an accepted submission: 256 octets, well formed, waiting, with its id. Assumes nothing.
use mathlib.Core.Path.{◌≡◌}
use mathlib.Core.Bool.{true, false}
use mathlib.Core.Logic.{⊎_map}
use mathlib.Core.List.{List}
use Prim.Native.Nat.{ℕ, ◌≤◌, ◌<◌}
use native.Mathlib.Omega.{arith}
use lib.ListN.{length, length-take}
use Rattle.wire.specs.Fields.{octets_of}
use Rattle.forms.specs.declared.text.Form.TheVariants.{Ascii}
use Rattle.records.specs.Layout.{record_size, id_of}
use Rattle.records.specs.Book.{book_record_size, used_ok}
use Rattle.source.specs.Source.{no_address}
use Rattle.submit.specs.Submit.{fields_of}
use Rattle.wire.specs.declared.fields.Span.{Span}
use Rattle.wellformed.specs.Effects.{submission, submitter, submitted_record}
use Rattle.wellformed.specs.Good.{Good, GoodFields}
use Rattle.wellformed.proofs.TextFields.{padded-field}
use Rattle.wellformed.proofs.RulesHold.{submit-holds}
use Rattle.wellformed.proofs.Sources.{source-within, source-length, source_ok, given-address}
use Rattle.wellformed.proofs.NewRecord.{new-length, new-id, new-good}

-- a text is no longer than its span
pub span-length : (span : Span) (body : List ℕ) → length (octets_of span body) ≤ span.len
span-length span body = simp length-take (omega arith)

module _ (book body : List ℕ) where
  pub submission-length : (id : ℕ) → length (submitted_record book body id) ≡ record_size
  submission-length id =
      let s = submit-holds body in
      new-length id (fields_of (submitter book body) (submission body)) (octets_of (submission body).service body) (octets_of (submission body).text body)
      (source-within book (submission body).source.octets s.source.size)
      (omega (arith, s.destination.size))
      (omega (arith, s.service.fits, span-length (submission body).service body))
      s.schedule.size
      s.validity.size
      (omega (arith, s.words.fits, span-length (submission body).text body))

  module _ (sized : length book ≡ book_record_size) (used : used_ok book ≡ true) (given : no_address (submission body).destination.octets ≡ false) where
    submission-fields : GoodFields (fields_of (submitter book body) (submission body)) (octets_of (submission body).service body) (octets_of (submission body).text body)
    submission-fields =
        let s = submit-holds body in
        let source = (submission body).source.octets in
        let service = (submission body).service in
        let text = (submission body).text in
        record {
          source_size = source-length book source sized used s.source;
          source = source_ok book source sized used s.source;
          destination_size = s.destination.size;
          destination = given-address (submission body).destination.octets s.destination.number given;
          service_size = omega (arith, s.service.fits, span-length service body);
          service_text = padded-field Ascii 5 (octets_of service body) s.service.no_nul s.service.is_formed;
          priority = s.priority;
          schedule = s.schedule;
          validity = s.validity;
          registered = s.registered;
          default = s.words.default_low;
          size = omega (arith, s.words.fits, span-length text body);
          not_both = ⊎_map (λ e. omega (arith, span-length text body)) (λ e. e) s.words.not_both;
        }

    module _ (id : ℕ) where
      pub submission-id : id < 4294967296 → id_of (submitted_record book body id) ≡ id
      submission-id = new-id id _ _ _ submission-fields

      pub submission-good : (last : ℕ) → 1 ≤ id → id ≤ last → id < 4294967296 → Good last (submitted_record book body id)
      submission-good = new-good id _ _ _ submission-fields
