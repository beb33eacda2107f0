-- An issued id is last plus 1, and no record of the account has it. Assumes nothing.
use Rattle.std.specs.Prelude.{None, Option, Some}
use mathlib.Core.Path.{◌≡◌, refl, sym, ◌∙◌}
use mathlib.Core.Bool.{Bool, true, false, not, ◌&&◌, false≢true}
use mathlib.Core.List.{List}
use Prim.Native.Nat.{ℕ, ◌+◌, ◌≤◌, ◌<◌}
use native.Mathlib.Omega.{arith}
use lib.Dec.{eqb}
use borrow.Author.Tests.{ne_eqb}
use Rattle.records.specs.Layout.{places, id_of}
use Rattle.store.specs.Places.{record_at}
use Rattle.store.specs.Search.{is_empty, has_id, place_of}
use Rattle.store.specs.Account.{account_ok}
use Rattle.submit.specs.Submit.{Submitted, submitted}
use Rattle.wellformed.proofs.Cases.{submitted-cases}
use Rattle.wellformed.proofs.Lowest.{found-place, found-passes}
use Rattle.wellformed.proofs.GoodPartIs.{account-good}
use Rattle.wellformed.proofs.Parts.{id-within}

module _ (book body part : List ℕ) (last : ℕ) where
  -- a last id that changes is one more, and is the id returned
  pub issued : ((submitted book body part last).last ≡ last → ⊥)
      → ((submitted book body part last).last ≡ last + 1) × ((submitted book body part last).id ≡ Some (submitted book body part last).last)
  issued =
      submitted-cases book body part last (λ (r : Submitted). (r.last ≡ last → ⊥) → (r.last ≡ last + 1) × (r.id ≡ Some r.last))
      (λ _ _ ne. absurd (ne refl)) (λ _ _ _ ne. absurd (ne refl)) (λ _ _ _ _ _ _. (refl, refl))

  -- it stays a 32-bit number
  pub issued-bits : last ≤ 0xFFFFFFFF → (submitted book body part last).last ≤ 0xFFFFFFFF
  issued-bits h =
      submitted-cases book body part last (λ (r : Submitted). r.last ≤ 0xFFFFFFFF) (λ _ _. h) (λ _ _ _. h) (λ _ _ _ room _. omega arith)

module _ (book part : List ℕ) (last : ℕ) (ok : account_ok book last part ≡ true) where
  -- no record has an id above the last one
  pub issued-new : (id k : ℕ) → last < id → k < places → has_id id (record_at k part) ≡ false
  issued-new id k above h = by (is_empty (record_at k part)) refl
    where
      by : (t : Bool) → is_empty (record_at k part) ≡ t → (not t && eqb (id_of (record_at k part)) id) ≡ false
      by true e = refl
      by false e =
          ne_eqb (id_of (record_at k part)) id (λ same. absurd (omega (arith, id-within last part (account-good book last part ok) k h e)))

  pub issued-unknown : (id : ℕ) → last < id → place_of id part ≡ None
  issued-unknown id above = by (place_of id part) refl
    where
      by : (found : Option ℕ) → place_of id part ≡ found → found ≡ None
      by (Some k) e =
          absurd (false≢true (sym (issued-new id k above (found-place (has_id id) id_of part k e)) ∙ found-passes (has_id id) id_of part k e))
      by None e = refl
