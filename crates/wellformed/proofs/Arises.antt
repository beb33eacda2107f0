-- A waiting, registered message of a well-formed account that an effect ends is marked. Assumes nothing.
use mathlib.Core.Path.{◌≡◌, refl, sym, ap, subst, ◌∙◌}
use mathlib.Core.Bool.{true, ◌&&◌, true≢false}
use mathlib.Core.List.{List}
use Prim.Native.Nat.{ℕ, ◌+◌, ◌≤◌, ◌<◌}
use native.Mathlib.Omega.{arith}
use native.Mathlib.Decide.{ℕ_discrete}
use lib.ListN.{length}
use borrow.Author.Tests.{eqb-true, eq-eqb}
use Rattle.octets.proofs.StretchLaws.{if-cases}
use Rattle.forms.specs.Class.{within}
use Rattle.forms.specs.Time.{sent_time}
use Rattle.forms.proofs.ClassLaws.{within_low}
use Rattle.wire.specs.Fields.{octets_of}
use Rattle.records.specs.Layout.{record_size, places, part_size, state_of, registered_of}
use Rattle.records.specs.Record.{marked}
use Rattle.store.specs.Places.{record_at, on_place}
use Rattle.store.specs.Search.{waiting, between}
use Rattle.store.specs.Account.{account_ok}
use Rattle.changes.specs.Change.{finished, unmarked, retexted, corrected}
use Rattle.submit.specs.Submit.{Submitted, submitted}
use Rattle.account.specs.Cancel.{Changed, deleted, deleted_if, cancelled}
use Rattle.account.specs.Replace.{correction_of, replaced}
use Rattle.account.specs.Outcome.{Reported, reported}
use Rattle.receipts.specs.Settle.{acknowledged}
use Rattle.wellformed.specs.Effects.{submission, submitted_record, cancellation, canceller, replacement}
use Rattle.wellformed.proofs.Cases.{submitted-cases, cancelled-cases, replaced-cases, reported-cases, acknowledged-cases}
use Rattle.wellformed.proofs.Changes.{finished-length, finished-mark, unmarked-length, unmarked-state, retexted-length, retexted-state, corrected-length, corrected-state}
use Rattle.wellformed.proofs.Submission.{submission-length}
use Rattle.wellformed.proofs.PlacesKept.{record-within, record-length, on_place-here, on_place-other, on_places-each}
use Rattle.wellformed.proofs.GoodPartIs.{account-good}
use Rattle.wellformed.proofs.Accounts.{new-place, new-place-free, deleted_if-length}

-- a record in a final state is marked
abbrev pub Told : List ℕ → Type 0
Told r = within 2 5 (state_of r) ≡ true → marked r ≡ true

-- none that waits is in one: it may change, as long as it waits
pub waiting-told : (r r' : List ℕ) → waiting r ≡ true → state_of r' ≡ state_of r → Told r'
waiting-told r r' w same ends = absurd (omega (arith, within_low 2 5 (state_of r') ends, eqb-true (state_of r) 1 w))

-- ---- the record at k, which waits and is registered

module _ (part : List ℕ) (whole : length part ≡ part_size) (k : ℕ) (h : k < places) (w : waiting (record_at k part) ≡ true) where
  abbrev r : List ℕ
  r = record_at k part

  kept : Told r
  kept = waiting-told r r w refl

  other : (f : List ℕ → List ℕ) (j : ℕ) → (k ≡ j → ⊥) → length (f (record_at j part)) ≤ record_size → Told (record_at k (on_place f j part))
  other f j ne fits = rw (on_place-other f j part k ne fits) kept

  -- a change at any place
  at : (f : List ℕ → List ℕ) → ((x : List ℕ) → length (f x) ≡ length x) → Told (f r) → (j : ℕ) → Told (record_at k (on_place f j part))
  at f keeps told j =
      elim (ℕ_discrete k j) [
        | yes e ↦
            subst (λ (i : ℕ). Told (record_at k (on_place f i part))) e (rw (on_place-here f k part whole h (keeps r ∙ record-length k part whole h)) told)
        | no ne ↦ other f j ne (omega (arith, keeps (record_at j part), record-within j part))
      ]

  at-waiting : (f : List ℕ → List ℕ) → ((x : List ℕ) → length (f x) ≡ length x) → state_of (f r) ≡ state_of r → (j : ℕ) → Told (record_at k (on_place f j part))
  at-waiting f keeps same j = at f keeps (waiting-told r (f r) w same) j

  -- ---- the effects

  pub acknowledged-arises : (id : ℕ) → Told (record_at k (acknowledged id part))
  acknowledged-arises id =
      acknowledged-cases part (λ (part' : List ℕ). Told (record_at k part')) kept id λ j _. at-waiting unmarked unmarked-length (unmarked-state r) j

  pub replaced-arises : (book body : List ℕ) → Told (record_at k (replaced book body part).part)
  replaced-arises book body =
      let c = correction_of (replacement body) in
      let text = octets_of (replacement body).text body in
      replaced-cases part (λ (x : Changed). Told (record_at k x.part)) (λ _ _. kept) book body λ j _ _.
      at-waiting (corrected c text) (corrected-length c text) (corrected-state c text r) j

  -- a new message goes over no waiting one
  pub submitted-arises : (book : List ℕ) (last : ℕ) → account_ok book last part ≡ true → (body : List ℕ) → Told (record_at k (submitted book body part last).part)
  submitted-arises book last ok body =
      let default = (submission body).default in
      let text = octets_of (submission body).text body in
      submitted-cases book body part last (λ (x : Submitted). Told (record_at k x.part)) (λ _ _. kept)
      (λ j _ _. at-waiting (retexted default text) (retexted-length default text) (retexted-state default text r) j)
      (λ j _ _ _ e.
      let free = new-place-free part j e last ((account-good book last part ok).each j (new-place part j e)) in
      other (λ x. submitted_record book body (last + 1)) j (λ same. true≢false (sym w ∙ ap (λ (i : ℕ). waiting (record_at i part)) same ∙ free.0))
      (omega (arith, submission-length book body (last + 1))))

  module _ (registered : registered_of (record_at k part) ≡ 1) (stamp : List ℕ) (sent : sent_time stamp ≡ true) where
    -- the mark of a message that ends is its flag
    ended : (state error : ℕ) → Told (finished state error stamp r)
    ended state error _ = eq-eqb _ 1 (finished-mark state error stamp r (record-length k part whole h) sent ∙ registered)

    pub cancelled-arises : (book body : List ℕ) → Told (record_at k (cancelled book stamp body part).part)
    unfolding deleted_if
    cancelled-arises book body =
        let source = canceller book body in
        let destination = (cancellation body).destination.octets in
        cancelled-cases stamp part (λ (x : Changed). Told (record_at k x.part)) (λ _ _. kept) book body
        (λ j _ _. at (deleted stamp) (finished-length 4 0 stamp) (ended 4 0) j)
        (λ _. rw (on_places-each _ (deleted_if-length source destination stamp) k part whole h)
        (if-cases Told (waiting r && between source destination r) _ _ (λ _. ended 4 0) (λ _. kept)))

    pub reported-arises : (id state error : ℕ) → Told (record_at k (reported stamp id state error part).part)
    reported-arises id state error =
        reported-cases stamp part (λ (x : Reported). Told (record_at k x.part)) kept id state error λ j _ _.
        at (finished state error stamp) (finished-length state error stamp) (ended state error) j
