-- The places that an effect doesn't name keep their octets; a cancellation without an id deletes each record that is waiting between the two addresses,
-- and keeps each that isn't. Assumes nothing.
use Rattle.std.specs.Prelude.{None, Option, Some}
use mathlib.Core.Path.{◌≡◌, refl, sym, ap, ◌∙◌}
use mathlib.Core.Bool.{true, false, ◌&&◌}
use mathlib.Core.List.{List}
use Prim.Native.Nat.{ℕ, ◌+◌, ◌≤◌, ◌<◌}
use native.Mathlib.Omega.{arith}
use lib.ListN.{length}
use Rattle.octets.proofs.StretchLaws.{if-true, if-false}
use Rattle.wire.specs.Fields.{octets_of}
use Rattle.records.specs.Layout.{record_size, places, part_size}
use Rattle.store.specs.Places.{record_at, on_place}
use Rattle.store.specs.Search.{waiting, between, place_of, new_place}
use Rattle.changes.specs.Change.{finished, unmarked, retexted, corrected}
use Rattle.source.specs.Source.{known}
use Rattle.submit.specs.Submit.{Submitted, submitted, to_replace}
use Rattle.account.specs.Cancel.{Changed, deleted, deleted_if, cancelled}
use Rattle.account.specs.Replace.{correction_of, replaced}
use Rattle.account.specs.Outcome.{Reported, reported}
use Rattle.receipts.specs.Settle.{acknowledged}
use Rattle.wellformed.specs.Effects.{submission, submitter, submitted_record, cancellation, canceller, replacement}
use Rattle.wellformed.proofs.Cases.{submitted-cases, cancelled-cases, replaced-cases, reported-cases, acknowledged-cases}
use Rattle.wellformed.proofs.Changes.{finished-length, unmarked-length, retexted-length, corrected-length}
use Rattle.wellformed.proofs.Submission.{submission-length}
use Rattle.wellformed.proofs.PlacesKept.{record-within, on_place-other, on_places-each}
use Rattle.wellformed.proofs.Accounts.{deleted_if-length}

-- a record deleted, or kept
module _ (source destination stamp r : List ℕ) where
  pub deleted_if-deletes : (waiting r && between source destination r) ≡ true → deleted_if source destination stamp r ≡ deleted stamp r
  unfolding deleted_if
  deleted_if-deletes h = if-true _ _ _ h

  pub deleted_if-keeps : (waiting r && between source destination r) ≡ false → deleted_if source destination stamp r ≡ r
  unfolding deleted_if
  deleted_if-keeps h = if-false _ _ _ h

module _ (part : List ℕ) (j : ℕ) where
  abbrev Kept : List ℕ → Type 0
  Kept part' = record_at j part' ≡ record_at j part

  -- a place is found, and it isn't j
  elsewhere : (found : Option ℕ) (f : List ℕ → List ℕ) (k : ℕ) → (found ≡ Some j → ⊥) → found ≡ Some k → length (f (record_at k part)) ≤ record_size → Kept (on_place f k part)
  elsewhere found f k ne e fits = on_place-other f k part j (λ same. ne (e ∙ ap Some (sym same))) fits

  pub reported-elsewhere : (stamp : List ℕ) (id state error : ℕ) → (place_of id part ≡ Some j → ⊥) → record_at j (reported stamp id state error part).part ≡ record_at j part
  reported-elsewhere stamp id state error ne =
      reported-cases stamp part (λ (r : Reported). Kept r.part) refl id state error λ k e _.
      elsewhere _ (finished state error stamp) k ne e (omega (arith, finished-length state error stamp (record_at k part), record-within k part))

  pub acknowledged-elsewhere : (id : ℕ) → (place_of id part ≡ Some j → ⊥) → record_at j (acknowledged id part) ≡ record_at j part
  acknowledged-elsewhere id ne =
      acknowledged-cases part Kept refl id λ k e.
      elsewhere _ unmarked k ne e (omega (arith, unmarked-length (record_at k part), record-within k part))

  pub replaced-elsewhere : (book body : List ℕ) → (known (replacement body).id part ≡ Some j → ⊥) → record_at j (replaced book body part).part ≡ record_at j part
  replaced-elsewhere book body ne =
      replaced-cases part (λ (r : Changed). Kept r.part) (λ _ _. refl) book body λ k e _.
      let c = correction_of (replacement body) in
      let text = octets_of (replacement body).text body in
      elsewhere _ (corrected c text) k ne e (omega (arith, corrected-length c text (record_at k part), record-within k part))

  pub submitted-elsewhere : (book body : List ℕ) (last : ℕ) → (to_replace (submitter book body) (submission body) part ≡ Some j → ⊥) → (new_place part ≡ Some j → ⊥)
      → record_at j (submitted book body part last).part ≡ record_at j part
  submitted-elsewhere book body last ne_replace ne_new =
      let text = octets_of (submission body).text body in
      submitted-cases book body part last (λ (r : Submitted). Kept r.part) (λ _ _. refl)
      (λ k _ e. elsewhere _ (retexted (submission body).default text) k ne_replace e (omega (arith, retexted-length (submission body).default text (record_at k part), record-within k part)))
      (λ k _ _ _ e. elsewhere _ (λ r. submitted_record book body (last + 1)) k ne_new e (omega (arith, submission-length book body (last + 1))))

  module _ (book stamp body : List ℕ) where
    -- with an id
    pub cancelled-elsewhere : (id : ℕ) → (cancellation body).id ≡ Some id → (place_of id part ≡ Some j → ⊥) → record_at j (cancelled book stamp body part).part ≡ record_at j part
    unfolding known
    cancelled-elsewhere id is ne =
        cancelled-cases stamp part (λ (r : Changed). Kept r.part) (λ _ _. refl) book body
        (λ k e _. elsewhere (place_of id part) (deleted stamp) k ne (ap (λ m. known m part) (sym is) ∙ e) (omega (arith, finished-length 4 0 stamp (record_at k part), record-within k part)))
        (λ empty. let z : ◌≡◌ {A = ℕ} 0 1 = cc in absurd (omega arith))

    -- without one
    pub cancelled-each : (cancellation body).id ≡ None → (cancelled book stamp body part).status ≡ 0 → length part ≡ part_size → j < places
        → record_at j (cancelled book stamp body part).part ≡ deleted_if (canceller book body) (cancellation body).destination.octets stamp (record_at j part)
    unfolding known
    cancelled-each is done whole h =
        cancelled-cases stamp part
        (λ (r : Changed). r.status ≡ 0 → record_at j r.part ≡ deleted_if (canceller book body) (cancellation body).destination.octets stamp (record_at j part))
        (λ _ ne e. absurd (ne e)) book body
        (λ k e _ _. let z : ◌≡◌ {A = ℕ} 0 1 = cc (ap (λ m. known m part) is) in absurd (omega arith))
        (λ _ _. on_places-each _ (deleted_if-length (canceller book body) (cancellation body).destination.octets stamp) j part whole h)
        done
