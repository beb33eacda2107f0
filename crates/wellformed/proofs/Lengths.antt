-- Each effect keeps the length of the account's part, whatever the part and the last id. Assumes nothing.
use mathlib.Core.Path.{◌≡◌, refl, ◌∙◌}
use mathlib.Core.List.{List}
use Prim.Native.Nat.{ℕ, zero, suc, ◌+◌, ◌*◌}
use lib.ListN.{length}
use Rattle.std.specs.Prelude.{Option}
use Rattle.octets.proofs.PatchLaws.{patch-length}
use Rattle.wire.specs.declared.frame.Header.{Header}
use Rattle.records.specs.Layout.{record_size}
use Rattle.store.specs.Places.{record_at, on_place, on_places}
use Rattle.session.specs.declared.Receipt.{Receipt}
use Rattle.submit.specs.Submit.{Submitted, submitted}
use Rattle.account.specs.Cancel.{Changed, cancelled}
use Rattle.account.specs.Replace.{replaced}
use Rattle.account.specs.Outcome.{Reported, reported}
use Rattle.receipts.specs.Settle.{Settled, acknowledged, settled}
use Rattle.wellformed.proofs.Cases.{submitted-cases, cancelled-cases, replaced-cases, reported-cases, acknowledged-cases, settled-cases}

pub on_place-length : (f : List ℕ → List ℕ) (k : ℕ) (part : List ℕ) → length (on_place f k part) ≡ length part
on_place-length f k part = patch-length part (record_size * k) (f (record_at k part))

pub on_places-length : (f : List ℕ → List ℕ) (n k : ℕ) (part : List ℕ) → length (on_places f n k part) ≡ length part
unfolding on_places
on_places-length f zero k part = refl
on_places-length f (suc n) k part = on_places-length f n (k + 1) (on_place f k part) ∙ on_place-length f k part

pub submitted-length : (book body part : List ℕ) (last : ℕ) → length (submitted book body part last).part ≡ length part
submitted-length book body part last =
    submitted-cases book body part last (λ (r : Submitted). length r.part ≡ length part) (λ _ _. refl) (λ _ _ _. patch-length part _ _)
    (λ _ _ _ _ _. patch-length part _ _)

module _ (part : List ℕ) where
  Keeps : Changed → Type 0
  Keeps r = length r.part ≡ length part

  pub cancelled-length : (book stamp body : List ℕ) → length (cancelled book stamp body part).part ≡ length part
  unfolding Keeps
  cancelled-length book stamp body =
      cancelled-cases stamp part Keeps (λ _ _. refl) book body (λ _ _ _. patch-length part _ _) (λ _. on_places-length _ _ _ part)

  pub replaced-length : (book body : List ℕ) → length (replaced book body part).part ≡ length part
  unfolding Keeps
  replaced-length book body = replaced-cases part Keeps (λ _ _. refl) book body (λ _ _ _. patch-length part _ _)

  pub reported-length : (stamp : List ℕ) (id state error : ℕ) → length (reported stamp id state error part).part ≡ length part
  reported-length stamp id state error =
      reported-cases stamp part (λ (r : Reported). length r.part ≡ length part) refl id state error (λ _ _ _. patch-length part _ _)

  pub acknowledged-length : (id : ℕ) → length (acknowledged id part) ≡ length part
  acknowledged-length id = acknowledged-cases part (λ (p : List ℕ). length p ≡ length part) refl id (λ _ _. patch-length part _ _)

  pub settled-length : (h : Header) (receipt : Option Receipt) → length (settled h receipt part).part ≡ length part
  settled-length h receipt = settled-cases part (λ (r : Settled). length r.part ≡ length part) h receipt refl refl (λ id _ _ _. acknowledged-length id)
