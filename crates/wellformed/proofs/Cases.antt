-- Each effect by cases: what holds of a refusal, which changes nothing, and of each change, holds of the effect. Assumes nothing.
use Rattle.std.specs.Prelude.{None, Option, Some}
use mathlib.Core.Path.{◌≡◌, refl, sym, ap}
use mathlib.Core.Bool.{true, false, not, ◌&&◌}
use mathlib.Core.List.{List}
use Prim.Native.Nat.{ℕ}
use native.Mathlib.Omega.{arith}
use lib.Dec.{eqb}
use borrow.Author.Tests.{eqb-true, eqb-false, not-true, not-false}
use Rattle.octets.specs.Choice.{when◌then◌else◌}
use Rattle.octets.proofs.StretchLaws.{and_left, and_right, if-cases}
use Rattle.wire.specs.Command.{response_to}
use Rattle.wire.specs.declared.frame.Header.{Header}
use Rattle.requests.specs.Submit.{submit_of}
use Rattle.requests.specs.Cancel.{cancel_of}
use Rattle.requests.specs.Replace.{replace_of}
use Rattle.records.specs.Layout.{places, source_of}
use Rattle.records.specs.Book.{same_address}
use Rattle.store.specs.Places.{record_at, on_places, on_found}
use Rattle.store.specs.Search.{waiting, place_of, pair_place, new_place}
use Rattle.session.specs.State.{outstanding}
use Rattle.session.specs.declared.Receipt.{Receipt}
use Rattle.source.specs.Source.{no_address, known}
use Rattle.submit.specs.Submit.{Submitted, refused, submitted, stored, added, to_replace}
use Rattle.account.specs.Cancel.{Changed, changed, deleted_if, cancellable, cancelled_by, cancelled_one, cancelled_all, cancelled}
use Rattle.account.specs.Replace.{replaced, replaced_in}
use Rattle.account.specs.Outcome.{Reported, told, reported}
use Rattle.receipts.specs.DeliverSm.{deliver_id}
use Rattle.receipts.specs.Settle.{Settled, settling, acknowledged, settled}
use Rattle.wellformed.specs.Effects.{submission, submitter, retexted_at, added_at, cancellation, canceller, deleted_at, deleted_all, replacement, replacer, corrected_at, finished_at, unmarked_at}

-- a place that is looked for
pub found-cases : {A : Type 0} (P : A → Type 0) (found : Option ℕ) (here : ℕ → A) (nowhere : A)
    → ((k : ℕ) → found ≡ Some k → P (here k)) → (found ≡ None → P nowhere) → P (on_found found here nowhere)
found-cases P (Some k) here nowhere p q = p k refl
found-cases P None here nowhere p q = q refl

-- a refused body
pub read-cases : {A : Type 0} (P : A → Type 0) (status : ℕ) (a b : A)
    → ((status ≡ 0 → ⊥) → P a) → (status ≡ 0 → P b) → P (when not (eqb status 0) then a else b)
read-cases P status a b p q =
    if-cases P (not (eqb status 0)) a b (λ h. p (eqb-false status 0 (not-true (eqb status 0) h))) (λ h. q (eqb-true status 0 (not-false (eqb status 0) h)))

module _ (book body part : List ℕ) (last : ℕ) (P : Submitted → Type 0) where
  pub submitted-cases : ((status : ℕ) → (status ≡ 0 → ⊥) → P (refused status part last))
      → ((k : ℕ) → (submit_of body).status ≡ 0 → to_replace (submitter book body) (submission body) part ≡ Some k → P (retexted_at body part last k))
      → ((k : ℕ) → (submit_of body).status ≡ 0 → no_address (submission body).destination.octets ≡ false → (last ≡ 0xFFFFFFFF → ⊥) → new_place part ≡ Some k
      → P (added_at book body part last k))
      → P (submitted book body part last)
  unfolding submitted stored added
  submitted-cases refuses retexts adds =
      read-cases P _ _ _ (refuses _) λ ok.
      if-cases P _ _ _ (λ _. refuses 11 (omega arith)) λ given.
      found-cases P _ _ _ (λ k e. retexts k ok e) λ _.
      if-cases P _ _ _ (λ _. refuses 8 (omega arith)) λ room.
      found-cases P _ _ _ (λ k e. adds k ok given (eqb-false last 0xFFFFFFFF room) e) λ _. refuses 20 (omega arith)

module _ (stamp part : List ℕ) (P : Changed → Type 0) (refuses : (status : ℕ) → (status ≡ 0 → ⊥) → P (changed status part)) where
  by-id : (id : Option ℕ) (source destination : List ℕ)
      → ((k : ℕ) → known id part ≡ Some k → cancellable source destination (record_at k part) ≡ true → P (deleted_at stamp part k))
      → (id ≡ None → P (changed 0 (on_places (deleted_if source destination stamp) places 0 part)))
      → P (cancelled_by id source destination stamp part)
  unfolding cancelled_one cancelled_all known
  by-id None source destination one all =
      if-cases P _ _ _ (λ _. refuses 11 (omega arith)) λ _.
      found-cases P (pair_place source destination part) _ _ (λ _ _. all refl) λ _. refuses 17 (omega arith)
  by-id (Some id) source destination one all =
      found-cases P _ _ _ (λ k e. if-cases P _ _ _ (one k e) λ _. refuses 17 (omega arith)) λ _. refuses 12 (omega arith)

  pub cancelled-cases : (book body : List ℕ)
      → ((k : ℕ) → known (cancellation body).id part ≡ Some k → cancellable (canceller book body) (cancellation body).destination.octets (record_at k part) ≡ true
      → P (deleted_at stamp part k))
      → ((cancellation body).id ≡ None → P (deleted_all book stamp body part))
      → P (cancelled book stamp body part)
  unfolding cancelled
  cancelled-cases book body one all = read-cases P (cancel_of body).status _ _ (refuses _) λ _. by-id _ _ _ one all

pub reported-cases : (stamp part : List ℕ) (P : Reported → Type 0) → P (told false part) → (id state error : ℕ)
    → ((k : ℕ) → place_of id part ≡ Some k → waiting (record_at k part) ≡ true → P (finished_at stamp state error part k))
    → P (reported stamp id state error part)
unfolding reported
reported-cases stamp part P none id state error one = found-cases P _ _ _ (λ k e. if-cases P _ _ _ (one k e) λ _. none) λ _. none

module _ (part : List ℕ) (P : Changed → Type 0) (refuses : (status : ℕ) → (status ≡ 0 → ⊥) → P (changed status part)) where
  pub replaced-cases : (book body : List ℕ)
      → ((k : ℕ) → known (replacement body).id part ≡ Some k → (same_address (source_of (record_at k part)) (replacer book body) && waiting (record_at k part)) ≡ true
      → P (corrected_at body part k))
      → P (replaced book body part)
  unfolding replaced replaced_in
  replaced-cases book body one =
      read-cases P (replace_of body).status _ _ (refuses _) λ _.
      found-cases P _ _ _ (λ k e. if-cases P _ _ _ (one k e) λ _. refuses 19 (omega arith)) λ _. refuses 12 (omega arith)

module _ (part : List ℕ) where
  pub acknowledged-cases : (P : List ℕ → Type 0) → P part → (id : ℕ) → ((k : ℕ) → place_of id part ≡ Some k → P (unmarked_at part k))
      → P (acknowledged id part)
  unfolding acknowledged
  acknowledged-cases P none id one = found-cases P _ _ _ one λ _. none

  -- a response that settles nothing leaves all as it was, a receipt that is refused is owed again, and one that is accepted is acknowledged
  pub settled-cases : (P : Settled → Type 0) (h : Header) (receipt : Option Receipt) → P (settling receipt part) → P (settling None part)
      → ((id : ℕ) → receipt ≡ outstanding id h.sequence → h.command ≡ response_to deliver_id → h.status ≡ 0 → P (settling None (acknowledged id part)))
      → P (settled h receipt part)
  unfolding settled
  settled-cases P h None same owed accepted = same
  settled-cases P h (Some r) same owed accepted =
      let response = eqb h.command (response_to deliver_id) in
      let expected = eqb h.sequence r.sequence in
      if-cases P _ _ _
      (λ t. if-cases (λ (p : List ℕ). P (settling None p)) _ _ _
      (λ ok. accepted r.id (ap (outstanding r.id) (sym (eqb-true _ _ (and_right response expected t)))) (eqb-true _ _ (and_left response expected t)) (eqb-true _ 0 ok))
      (λ _. owed))
      (λ _. same)
