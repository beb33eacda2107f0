-- What no early number tells of the arguments; and that a receipt gets none where they are right. Assumes nothing.
use Prim.Native.Nat.{ℕ, ◌≤◌}
use native.Mathlib.Omega.{arith}
use mathlib.Core.Path.{◌≡◌}
use mathlib.Core.Bool.{true, false, not}
use mathlib.Core.List.{List}
use lib.Dec.{ltb}
use borrow.Author.Tests.{ltb-false, le-ltb, not-false}
use Rattle.octets.specs.Choice.{when◌then◌else◌}
use Rattle.octets.proofs.StretchLaws.{if-cases}
use Rattle.forms.specs.Time.{sent_time}
use Rattle.answers.specs.Reply.{space_needed}
use Rattle.records.specs.Book.{book_size}
use Rattle.isolation.specs.Platform.{table_size}
use Rattle.receipts.specs.DeliverSm.{longest_delivery}
use Rattle.centre.specs.Centre.{wrong_sizes, octets_early, delivery_early, outcome_early, pick_early}
use Rattle.centre.proofs.SizeLaws.{book-fits, table_fits_lem}

module _ (book table : ℕ) where
  -- the sizes are right
  abbrev Sizes : Type 0
  Sizes = (book ≡ book_size) × (table ≡ table_size)

  right-sizes : wrong_sizes book table ≡ false → Sizes
  right-sizes h = (book-fits book table h, table_fits_lem book table h)

  pub early-octets : (stamp : List ℕ) (space : ℕ) → octets_early book table stamp space ≡ 0 → Sizes × (space_needed ≤ space) × (sent_time stamp ≡ true)
  unfolding octets_early
  early-octets stamp space =
      let P : ℕ → Type 0 = λ n. n ≡ 0 → Sizes × (space_needed ≤ space) × (sent_time stamp ≡ true) in
      if-cases P (wrong_sizes book table) _ _ (λ _ z. absurd (omega arith)) λ right.
      if-cases P (ltb space space_needed) _ _ (λ _ z. absurd (omega arith)) λ room.
      if-cases P (not (sent_time stamp)) _ _ (λ _ z. absurd (omega arith)) λ sent _.
      (right-sizes right, ltb-false space space_needed room, not-false (sent_time stamp) sent)

  pub early-delivery : (space : ℕ) → delivery_early book table space ≡ 0 → Sizes × (longest_delivery ≤ space)
  unfolding delivery_early
  early-delivery space =
      let P : ℕ → Type 0 = λ n. n ≡ 0 → Sizes × (longest_delivery ≤ space) in
      if-cases P (wrong_sizes book table) _ _ (λ _ z. absurd (omega arith)) λ right.
      if-cases P (ltb space longest_delivery) _ _ (λ _ z. absurd (omega arith)) λ room _. (right-sizes right, ltb-false space longest_delivery room)

  pub delivery-ready : (space : ℕ) → book ≡ book_size → table ≡ table_size → longest_delivery ≤ space → delivery_early book table space ≡ 0
  unfolding delivery_early when◌then◌else◌
  delivery-ready space b t room = rw (b, t, le-ltb space longest_delivery room)

  pub early-outcome : (stamp : List ℕ) → outcome_early book table stamp ≡ 0 → Sizes × (sent_time stamp ≡ true)
  unfolding outcome_early
  early-outcome stamp =
      let P : ℕ → Type 0 = λ n. n ≡ 0 → Sizes × (sent_time stamp ≡ true) in
      if-cases P (wrong_sizes book table) _ _ (λ _ z. absurd (omega arith)) λ right.
      if-cases P (not (sent_time stamp)) _ _ (λ _ z. absurd (omega arith)) λ sent _. (right-sizes right, not-false (sent_time stamp) sent)

  pub early-pick : pick_early book table ≡ 0 → Sizes
  unfolding pick_early
  early-pick = if-cases (λ (n : ℕ). n ≡ 0 → Sizes) (wrong_sizes book table) _ _ (λ _ z. absurd (omega arith)) λ right _. right-sizes right
