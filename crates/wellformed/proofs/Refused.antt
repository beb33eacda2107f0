-- A refused request changes nothing: neither the account's part nor, for a submission, its last id. Assumes nothing.
use mathlib.Core.Path.{◌≡◌, refl}
use mathlib.Core.Bool.{false, true≢false}
use mathlib.Core.List.{List}
use Prim.Native.Nat.{ℕ}
use Rattle.submit.specs.Submit.{Submitted, submitted}
use Rattle.account.specs.Cancel.{Changed, cancelled}
use Rattle.account.specs.Replace.{replaced}
use Rattle.account.specs.Outcome.{Reported, reported}
use Rattle.wellformed.proofs.Cases.{submitted-cases, cancelled-cases, replaced-cases, reported-cases}

pub submitted-refused : (book body part : List ℕ) (last : ℕ) → ((submitted book body part last).status ≡ 0 → ⊥)
    → ((submitted book body part last).part ≡ part) × ((submitted book body part last).last ≡ last)
submitted-refused book body part last =
    submitted-cases book body part last (λ (r : Submitted). (r.status ≡ 0 → ⊥) → (r.part ≡ part) × (r.last ≡ last))
    (λ _ _ _. (refl, refl)) (λ _ _ _ ne. absurd (ne refl)) (λ _ _ _ _ _ ne. absurd (ne refl))

module _ (part : List ℕ) where
  Same : Changed → Type 0
  Same r = (r.status ≡ 0 → ⊥) → r.part ≡ part

  pub cancelled-refused : (book stamp body : List ℕ) → ((cancelled book stamp body part).status ≡ 0 → ⊥) → (cancelled book stamp body part).part ≡ part
  unfolding Same
  cancelled-refused book stamp body =
      cancelled-cases stamp part Same (λ _ _ _. refl) book body (λ _ _ _ ne. absurd (ne refl)) (λ _ ne. absurd (ne refl))

  pub replaced-refused : (book body : List ℕ) → ((replaced book body part).status ≡ 0 → ⊥) → (replaced book body part).part ≡ part
  unfolding Same
  replaced-refused book body = replaced-cases part Same (λ _ _ _. refl) book body (λ _ _ _ ne. absurd (ne refl))

  pub reported-refused : (stamp : List ℕ) (id state error : ℕ) → (reported stamp id state error part).waited ≡ false
      → (reported stamp id state error part).part ≡ part
  reported-refused stamp id state error =
      reported-cases stamp part (λ (r : Reported). r.waited ≡ false → r.part ≡ part) (λ _. refl) id state error
      (λ _ _ _ t. absurd (true≢false t))
