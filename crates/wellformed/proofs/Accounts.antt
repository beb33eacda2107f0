-- Each effect leaves a well-formed account well formed, with the last id that it gives back. A query changes nothing: it gives back neither a part
-- nor a last id. Assumes nothing.
use Rattle.std.specs.Prelude.{None, Option, Some}
use mathlib.Core.Path.{◌≡◌, refl, ◌∙◌}
use mathlib.Core.Bool.{Bool, true, false, not, ◌&&◌, ◌||◌}
use mathlib.Core.Logic.{◌⊎◌, inl, inr, ⊎_elim, ⊎_map}
use mathlib.Core.List.{List}
use Prim.Native.Nat.{ℕ, ◌+◌, ◌≤◌, ◌<◌}
use native.Mathlib.Omega.{arith}
use lib.ListN.{length}
use lib.Dec.{eqb}
use borrow.Author.Tests.{eqb-true, eqb-false, ne_eqb, not-true}
use Rattle.octets.proofs.StretchLaws.{and_left, and_right, if-cases}
use Rattle.forms.specs.Class.{within}
use Rattle.forms.specs.Time.{sent_time}
use Rattle.forms.proofs.ClassLaws.{within_low}
use Rattle.wire.specs.Fields.{octets_of}
use Rattle.wire.specs.declared.frame.Header.{Header}
use Rattle.records.specs.Layout.{record_size, places, part_size, state_of, id_of, source_of, destination_of}
use Rattle.records.specs.Book.{book_record_size, same_address}
use Rattle.records.specs.Record.{marked, record_ok}
use Rattle.store.specs.Places.{record_at, on_place, on_places}
use Rattle.store.specs.Search.{waiting, between, overwritable, is_empty, has_id, pair_place, empty_place, finished_place, or_else, new_place}
use Rattle.changes.specs.Change.{finished, unmarked, retexted, corrected}
use Rattle.store.specs.Account.{account_ok}
use Rattle.session.specs.declared.Receipt.{Receipt}
use Rattle.source.specs.Source.{no_address, known}
use Rattle.submit.specs.Submit.{Submitted, submitted, to_replace}
use Rattle.account.specs.Cancel.{Changed, deleted, deleted_if, cancellable, cancelled}
use Rattle.account.specs.Replace.{correction_of, replaced}
use Rattle.account.specs.Outcome.{Reported, reported}
use Rattle.receipts.specs.Settle.{Settled, acknowledged, settled}
use Rattle.wellformed.specs.Effects.{submission, submitter, replacement, replacer, submitted_record}
use Rattle.wellformed.specs.Good.{Good, GoodPart}
use Rattle.wellformed.proofs.Cases.{submitted-cases, cancelled-cases, replaced-cases, reported-cases, acknowledged-cases, settled-cases}
use Rattle.wellformed.proofs.Changes.{finished-length, finished-id, finished-good, unmarked-length, unmarked-id, unmarked-good, retexted-length, retexted-id, retexted-good, corrected-length, corrected-id, corrected-good}
use Rattle.wellformed.proofs.GoodIs.{both, record-good, unfinished-unmarked}
use Rattle.wellformed.proofs.RulesHold.{submit-holds, replace-holds}
use Rattle.wellformed.proofs.Submission.{span-length, submission-length, submission-id, submission-good}
use Rattle.wellformed.proofs.PlacesKept.{record-length, on_places-each}
use Rattle.wellformed.proofs.Lowest.{found-place, found-passes}
use Rattle.wellformed.proofs.GoodPartIs.{account-used, account-good, good-account}
use Rattle.wellformed.proofs.Parts.{Follows, follows_same, follows-good, waiting-good, each-follows, one_follows, one-new}

-- ---- the place that an effect names

never : {A : Type 0} {k : ℕ} → None ≡ Some k → A
never e = let z : ◌≡◌ {A = ℕ} 0 1 = cc in absurd (omega arith)

pub known-place : (id : Option ℕ) (part : List ℕ) (k : ℕ) → known id part ≡ Some k → k < places
unfolding known
known-place None part k e = never e
known-place (Some id) part k e = found-place (has_id id) id_of part k e

either-place : (a b : Option ℕ) (k : ℕ) → or_else a b ≡ Some k → (a ≡ Some k) ⊎ (b ≡ Some k)
unfolding or_else
either-place (Some i) b k e = inl e
either-place None b k e = inr e

module _ (part : List ℕ) (k : ℕ) (e : new_place part ≡ Some k) where
  pub new-place : k < places
  new-place = ⊎_elim (found-place is_empty (λ r. 0) part k) (found-place overwritable id_of part k) (either-place (empty_place part) (finished_place part) k e)

  -- no waiting and no marked record is overwritten
  pub new-place-free : (last : ℕ) → record_ok last (record_at k part) ≡ true → (waiting (record_at k part) ≡ false) × (marked (record_at k part) ≡ false)
  new-place-free last ok =
      let r = record_at k part in
      ⊎_elim
      (λ h.
      let none = eqb-true (state_of r) 0 (found-passes is_empty (λ r. 0) part k h) in
      (ne_eqb (state_of r) 1 (omega arith), unfinished-unmarked last r ok (omega arith)))
      (λ h.
      let b = both (within 2 5 (state_of r)) (not (marked r)) (found-passes overwritable id_of part k h) in
      (ne_eqb (state_of r) 1 (omega (arith, within_low 2 5 (state_of r) b.0)), not-true (marked r) b.1))
      (either-place (empty_place part) (finished_place part) k e)

pub replace-place : (source body part : List ℕ) (k : ℕ) → to_replace source (submission body) part ≡ Some k
    → (k < places) × (waiting (record_at k part) ≡ true)
replace-place source body part k e =
    let pair : List ℕ → Bool = λ r. waiting r && between source (submission body).destination.octets r in
    let found : pair_place source (submission body).destination.octets part ≡ Some k =
    if-cases (λ (x : Option ℕ). x ≡ Some k → pair_place source (submission body).destination.octets part ≡ Some k) (eqb (submission body).replace 1) _ None (λ _ h. h) (λ _ h. never h) e in
    (found-place pair id_of part k found, and_left _ _ (found-passes pair id_of part k found))

pub cancellable-waiting : (source destination r : List ℕ) → cancellable source destination r ≡ true → waiting r ≡ true
unfolding cancellable
cancellable-waiting source destination r h =
    and_right (same_address (source_of r) source && (no_address destination || same_address (destination_of r) destination)) (waiting r) h

pub deleted_if-length : (source destination stamp r : List ℕ) → length (deleted_if source destination stamp r) ≡ length r
unfolding deleted_if
deleted_if-length source destination stamp r =
    if-cases (λ (x : List ℕ). length x ≡ length r) _ _ r (λ _. finished-length 4 0 stamp r) (λ _. refl)

-- ---- the effects

module _ (book part : List ℕ) (last : ℕ) (whole : length part ≡ part_size) (ok : account_ok book last part ≡ true) where
  good : GoodPart last part
  good = account-good book last part ok

  abbrev Ok : ℕ → List ℕ → Type 0
  Ok last' part' = account_ok book last' part' ≡ true

  okay : (last' : ℕ) (part' : List ℕ) → GoodPart last' part' → Ok last' part'
  okay last' part' g = good-account book last' part' (account-used book last part ok) g

  -- a change of the message at k
  module _ (k : ℕ) (h : k < places) where
    size : length (record_at k part) ≡ record_size
    size = record-length k part whole h

    here : waiting (record_at k part) ≡ true → Good last (record_at k part)
    here w = waiting-good last (record_at k part) (good.each k h) w

    changed-ok : (f : List ℕ → List ℕ) → length (f (record_at k part)) ≡ length (record_at k part) → Good last (record_at k part)
        → Good last (f (record_at k part)) → id_of (f (record_at k part)) ≡ id_of (record_at k part) → Ok last (on_place f k part)
    changed-ok f l g g' e =
        okay last (on_place f k part) (one_follows last part good f k whole h (l ∙ size) (follows-good last (record_at k part) (f (record_at k part)) g g' e))

  module _ (stamp : List ℕ) (sent : sent_time stamp ≡ true) where
    finished-ok : (state error : ℕ) → 2 ≤ state → state ≤ 5 → (state ≡ 4 → error ≡ 0) → (k : ℕ) → k < places → waiting (record_at k part) ≡ true
        → Ok last (on_place (finished state error stamp) k part)
    finished-ok state error low high zero k h w =
        let r = record_at k part in
        let g = here k h w in
        changed-ok k h (finished state error stamp) (finished-length state error stamp r) g
        (finished-good state error stamp r (size k h) sent last g low high zero)
        (finished-id state error stamp r (size k h) sent)

    pub reported-ok : (id state error : ℕ) → 2 ≤ state → state ≤ 5 → (state ≡ 4 → ⊥) → account_ok book last (reported stamp id state error part).part ≡ true
    reported-ok id state error low high ne =
        reported-cases stamp part (λ (r : Reported). Ok last r.part) ok id state error
        (λ k e. finished-ok state error low high (λ four. absurd (ne four)) k (found-place (has_id id) id_of part k e))

    deleted-follows : (source destination : List ℕ) (k : ℕ) → k < places → Follows last (record_at k part) (deleted_if source destination stamp (record_at k part))
    unfolding deleted_if
    deleted-follows source destination k h =
        let r = record_at k part in
        let kept = good.each k h in
        let s = record-length k part whole h in
        if-cases (Follows last r) (waiting r && between source destination r) (deleted stamp r) r
        (λ t. let g = waiting-good last r kept (and_left _ _ t) in
        follows-good last r (deleted stamp r) g (finished-good 4 0 stamp r s sent last g (omega arith) (omega arith) (λ _. refl)) (finished-id 4 0 stamp r s sent))
        (λ _. follows_same last r r refl kept)

    deleted-ok : (source destination : List ℕ) → Ok last (on_places (deleted_if source destination stamp) places 0 part)
    deleted-ok source destination =
        let f = deleted_if source destination stamp in
        okay last (on_places f places 0 part)
        (each-follows last part good (on_places f places 0 part) λ k h.
        rw (on_places-each f (deleted_if-length source destination stamp) k part whole h) (deleted-follows source destination k h))

    pub cancelled-ok : (body : List ℕ) → account_ok book last (cancelled book stamp body part).part ≡ true
    cancelled-ok body =
        cancelled-cases stamp part (λ (r : Changed). Ok last r.part) (λ _ _. ok) book body
        (λ k e t. finished-ok 4 0 (omega arith) (omega arith) (λ _. refl) k (known-place _ part k e) (cancellable-waiting _ _ _ t))
        (λ _. deleted-ok _ _)

  pub replaced-ok : (body : List ℕ) → account_ok book last (replaced book body part).part ≡ true
  replaced-ok body =
      replaced-cases part (λ (r : Changed). Ok last r.part) (λ _ _. ok) book body λ k e t.
      let h = known-place _ part k e in
      let w = and_right (same_address (source_of (record_at k part)) (replacer book body)) (waiting (record_at k part)) t in
      let r = replace-holds body in
      let c = correction_of (replacement body) in
      let text = octets_of (replacement body).text body in
      let short : length text ≤ 140 = omega (arith, r.words.fits, span-length (replacement body).text body) in
      let old = record_at k part in
      let g = here k h w in
      changed-ok k h (corrected c text) (corrected-length c text old) g
      (corrected-good c text old (size k h) short r.schedule r.validity last g w r.registered r.words.default_low
      (⊎_map (λ z. omega (arith, span-length (replacement body).text body)) (λ z. z) r.words.not_both))
      (corrected-id c text old (size k h) short r.schedule r.validity)

  pub acknowledged-ok : (id : ℕ) → account_ok book last (acknowledged id part) ≡ true
  acknowledged-ok id =
      acknowledged-cases part (Ok last) ok id λ k e.
      let h = found-place (has_id id) id_of part k e in
      let r = record_at k part in
      let given = (both _ _ (found-passes (has_id id) id_of part k e)).0 in
      let g = record-good last r (good.each k h) (eqb-false (state_of r) 0 (not-true (is_empty r) given)) in
      changed-ok k h unmarked (unmarked-length r) g (unmarked-good r (size k h) last g) (unmarked-id r)

  pub settled-ok : (h : Header) (receipt : Option Receipt) → account_ok book last (settled h receipt part).part ≡ true
  settled-ok h receipt = settled-cases part (λ (r : Settled). Ok last r.part) h receipt ok ok (λ id _ _ _. acknowledged-ok id)

  pub submitted-ok : length book ≡ book_record_size → last ≤ 0xFFFFFFFF → (body : List ℕ)
      → account_ok book (submitted book body part last).last (submitted book body part last).part ≡ true
  submitted-ok sized bits body =
      submitted-cases book body part last (λ (r : Submitted). Ok r.last r.part) (λ _ _. ok)
      (λ k _ e.
      let p = replace-place (submitter book body) body part k e in
      let s = submit-holds body in
      let text = octets_of (submission body).text body in
      let short : length text ≤ 140 = omega (arith, s.words.fits, span-length (submission body).text body) in
      let old = record_at k part in
      let g = here k p.0 p.1 in
      changed-ok k p.0 (retexted (submission body).default text) (retexted-length (submission body).default text old) g
      (retexted-good (submission body).default text old (size k p.0) short last g p.1 s.words.default_low
      (⊎_map (λ z. omega (arith, span-length (submission body).text body)) (λ z. z) s.words.not_both))
      (retexted-id (submission body).default text old (size k p.0) short))
      (λ k _ given full e.
      let used = account-used book last part ok in
      okay (last + 1) _
      (one-new last part good (λ r. submitted_record book body (last + 1)) k whole (new-place part k e) (submission-length book body (last + 1))
      (submission-good book body sized used given (last + 1) (last + 1) (omega arith) (omega arith) (omega arith))
      (submission-id book body sized used given (last + 1) (omega arith))))
