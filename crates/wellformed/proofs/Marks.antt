-- A marked record of a well-formed account stands, octet for octet, under every effect but the acknowledgement of its own id, which takes the mark
-- alone. Assumes nothing.
use mathlib.Core.Path.{◌≡◌, refl, sym, ap, ◌∙◌}
use mathlib.Core.Bool.{Bool, true, false, not, ◌&&◌, true≢false}
use mathlib.Core.List.{List}
use Prim.Native.Nat.{ℕ, ◌+◌, ◌≤◌, ◌<◌}
use native.Mathlib.Omega.{arith}
use lib.ListN.{length}
use borrow.Author.Tests.{eqb-true, eq-eqb, ne_eqb, not-true}
use Rattle.octets.proofs.StretchLaws.{and_right, and_both}
use Rattle.wire.specs.Fields.{octets_of}
use Rattle.records.specs.Layout.{record_size, places, part_size, state_of, id_of, source_of}
use Rattle.records.specs.Record.{marked}
use Rattle.records.specs.Book.{same_address}
use Rattle.store.specs.Places.{record_at, on_place}
use Rattle.store.specs.Search.{is_empty, waiting, between, has_id, place_of}
use Rattle.store.specs.Account.{account_ok}
use Rattle.changes.specs.Change.{finished, unmarked, retexted, corrected}
use Rattle.submit.specs.Submit.{Submitted, submitted}
use Rattle.account.specs.Cancel.{Changed, deleted, cancelled}
use Rattle.account.specs.Replace.{correction_of, replaced}
use Rattle.account.specs.Outcome.{Reported, reported}
use Rattle.receipts.specs.Settle.{acknowledged}
use Rattle.wellformed.specs.Effects.{submission, submitter, submitted_record, cancellation, canceller, replacement, replacer}
use Rattle.wellformed.proofs.Cases.{found-cases, submitted-cases, cancelled-cases, replaced-cases, reported-cases}
use Rattle.wellformed.proofs.GoodIs.{both, unfinished-unmarked}
use Rattle.wellformed.proofs.Changes.{finished-length, unmarked-length, retexted-length, corrected-length}
use Rattle.wellformed.proofs.Submission.{submission-length}
use Rattle.wellformed.proofs.PlacesKept.{record-within, record-length, on_place-other, on_place-here, on_places-each}
use Rattle.wellformed.proofs.Lowest.{found-place, found-passes, found_none}
use Rattle.wellformed.proofs.GoodPartIs.{account-good}
use Rattle.wellformed.proofs.Parts.{one_place}
use Rattle.wellformed.proofs.Accounts.{known-place, new-place, new-place-free, replace-place, cancellable-waiting, deleted_if-length}
use Rattle.wellformed.proofs.Elsewhere.{deleted_if-keeps, acknowledged-elsewhere}

-- ---- the effects of requests and outcomes

module _ (book part : List ℕ) (last : ℕ) (whole : length part ≡ part_size) (ok : account_ok book last part ≡ true) where
  -- a waiting record has no mark
  waiting-unmarked : (j : ℕ) → j < places → waiting (record_at j part) ≡ true → marked (record_at j part) ≡ false
  waiting-unmarked j inside w =
      unfinished-unmarked last (record_at j part) ((account-good book last part ok).each j inside) (omega (arith, eqb-true (state_of (record_at j part)) 1 w))

  module _ (k : ℕ) (h : k < places) (m : marked (record_at k part) ≡ true) where
    abbrev Kept : List ℕ → Type 0
    Kept part' = record_at k part' ≡ record_at k part

    -- an unmarked record is changed, so it isn't that at k
    beside : (f : List ℕ → List ℕ) (j : ℕ) → marked (record_at j part) ≡ false → length (f (record_at j part)) ≤ record_size → Kept (on_place f j part)
    beside f j free fits = on_place-other f j part k (λ same. true≢false (sym m ∙ ap (λ (i : ℕ). marked (record_at i part)) same ∙ free)) fits

    beside-waiting : (f : List ℕ → List ℕ) → ((r : List ℕ) → length (f r) ≡ length r) → (j : ℕ) → j < places → waiting (record_at j part) ≡ true
        → Kept (on_place f j part)
    beside-waiting f keeps j inside w =
        beside f j (waiting-unmarked j inside w) (omega (arith, keeps (record_at j part), record-within j part))

    not-waiting : waiting (record_at k part) ≡ false
    not-waiting = ne_eqb (state_of (record_at k part)) 1 λ one. true≢false (sym m ∙ waiting-unmarked k h (eq-eqb _ 1 one))

    pub submitted-marks : (body : List ℕ) → record_at k (submitted book body part last).part ≡ record_at k part
    submitted-marks body =
        let default = (submission body).default in
        let text = octets_of (submission body).text body in
        submitted-cases book body part last (λ (r : Submitted). Kept r.part) (λ _ _. refl)
        (λ j _ e. let p = replace-place (submitter book body) body part j e in beside-waiting (retexted default text) (retexted-length default text) j p.0 p.1)
        (λ j _ _ _ e.
        beside (λ r. submitted_record book body (last + 1)) j
        (new-place-free part j e last ((account-good book last part ok).each j (new-place part j e))).1
        (omega (arith, submission-length book body (last + 1))))

    pub cancelled-marks : (stamp body : List ℕ) → record_at k (cancelled book stamp body part).part ≡ record_at k part
    cancelled-marks stamp body =
        let source = canceller book body in
        let destination = (cancellation body).destination.octets in
        cancelled-cases stamp part (λ (r : Changed). Kept r.part) (λ _ _. refl) book body
        (λ j e t. beside-waiting (deleted stamp) (finished-length 4 0 stamp) j (known-place _ part j e) (cancellable-waiting source destination _ t))
        (λ _. on_places-each _ (deleted_if-length source destination stamp) k part whole h
        ∙ deleted_if-keeps source destination stamp (record_at k part) (ap (λ (t : Bool). t && between source destination (record_at k part)) not-waiting))

    pub replaced-marks : (body : List ℕ) → record_at k (replaced book body part).part ≡ record_at k part
    replaced-marks body =
        let c = correction_of (replacement body) in
        let text = octets_of (replacement body).text body in
        replaced-cases part (λ (r : Changed). Kept r.part) (λ _ _. refl) book body λ j e t.
        beside-waiting (corrected c text) (corrected-length c text) j (known-place _ part j e)
        (and_right (same_address (source_of (record_at j part)) (replacer book body)) (waiting (record_at j part)) t)

    pub reported-marks : (stamp : List ℕ) (id state error : ℕ) → record_at k (reported stamp id state error part).part ≡ record_at k part
    reported-marks stamp id state error =
        reported-cases stamp part (λ (r : Reported). Kept r.part) refl id state error λ j e.
        beside-waiting (finished state error stamp) (finished-length state error stamp) j (found-place (has_id id) id_of part j e)

    -- ---- its receipt acknowledged

    -- it isn't empty, and no other record has its id
    pub acknowledged-mark : (id : ℕ) → id_of (record_at k part) ≡ id → record_at k (acknowledged id part) ≡ unmarked (record_at k part)
    unfolding acknowledged
    acknowledged-mark id named =
        let r = record_at k part in
        let good = account-good book last part ok in
        let given : is_empty r ≡ false = ne_eqb (state_of r) 0 λ none. true≢false (sym m ∙ unfinished-unmarked last r (good.each k h) (omega arith)) in
        found-cases (λ (part' : List ℕ). record_at k part' ≡ unmarked r) (place_of id part) _ part
        (λ j e.
        let p = both (not (is_empty (record_at j part))) _ (found-passes (has_id id) id_of part j e) in
        let same = one_place last part good j k (found-place (has_id id) id_of part j e) h (not-true _ p.0, given, eqb-true _ id p.1 ∙ sym named) in
        rw same (on_place-here unmarked k part whole h (unmarked-length r ∙ record-length k part whole h)))
        (λ e. absurd (true≢false (sym (and_both _ _ (ap not given) (eq-eqb _ id named)) ∙ found_none (has_id id) id_of part e k h)))

-- ---- another's receipt acknowledged

-- of any record, marked or not
module _ (part : List ℕ) (k : ℕ) where
  pub acknowledged-marks : (id : ℕ) → (id_of (record_at k part) ≡ id → ⊥) → record_at k (acknowledged id part) ≡ record_at k part
  acknowledged-marks id ne =
      let r = record_at k part in
      acknowledged-elsewhere part k id λ e. ne (eqb-true (id_of r) id (and_right (not (is_empty r)) _ (found-passes (has_id id) id_of part k e)))
