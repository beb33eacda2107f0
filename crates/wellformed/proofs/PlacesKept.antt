-- A change at one place leaves the others, and a change at each place changes each by itself. Assumes nothing.
use mathlib.Core.Path.{◌≡◌, refl, ap, ◌∙◌}
use mathlib.Core.Bool.{Bool, true, false}
use mathlib.Core.List.{List}
use Prim.Native.Nat.{ℕ, zero, suc, ◌+◌, ◌*◌, ◌≤◌, ◌<◌}
use native.Mathlib.Omega.{arith}
use lib.ListN.{length, length-take}
use lib.Dec.{ltb, eqb}
use borrow.Author.Tests.{ltb-true, ltb-false, eqb-true, eqb-false}
use Rattle.octets.specs.Stretch.{part}
use Rattle.octets.proofs.StretchLaws.{part_length}
use Rattle.octets.proofs.PatchLaws.{patch-length, part-patch, part-before, part-after}
use Rattle.records.specs.Layout.{record_size, places, part_size}
use Rattle.store.specs.Places.{record_at, on_place, on_places}

pub record-within : (k : ℕ) (part : List ℕ) → length (record_at k part) ≤ record_size
record-within k part = simp length-take (omega arith)

pub record-length : (k : ℕ) (part : List ℕ) → length part ≡ part_size → k < places → length (record_at k part) ≡ record_size
record-length k part whole h = part_length (record_size * k) record_size part (omega arith)

module _ (f : List ℕ → List ℕ) (k : ℕ) (part : List ℕ) where
  pub on_place-other : (j : ℕ) → (j ≡ k → ⊥) → length (f (record_at k part)) ≤ record_size → record_at j (on_place f k part) ≡ record_at j part
  on_place-other j ne fits = by (ltb j k) refl
    where
      by : (t : Bool) → ltb j k ≡ t → record_at j (on_place f k part) ≡ record_at j part
      by true e = part-before part (record_size * k) _ (record_size * j) record_size (omega (arith, ltb-true j k e))
      by false e = part-after part (record_size * k) _ (record_size * j) record_size (omega (arith, ltb-false j k e))

  pub on_place-here : length part ≡ part_size → k < places → length (f (record_at k part)) ≡ record_size → record_at k (on_place f k part) ≡ f (record_at k part)
  on_place-here whole h e = rw e at (part-patch part (record_size * k) (f (record_at k part)) (omega arith))

module _ (f : List ℕ → List ℕ) (keeps : (r : List ℕ) → length (f r) ≡ length r) where
  fits : (k : ℕ) (part : List ℕ) → length (f (record_at k part)) ≤ record_size
  fits k part = omega (arith, keeps (record_at k part), record-within k part)

  on_places-before : (n k j : ℕ) (part : List ℕ) → j < k → record_at j (on_places f n k part) ≡ record_at j part
  unfolding on_places
  on_places-before zero k j part h = refl
  on_places-before (suc n) k j part h =
      on_places-before n (k + 1) j (on_place f k part) (omega arith) ∙ on_place-other f k part j (omega arith) (fits k part)

  on_places-at : (n k j : ℕ) (part : List ℕ) → length part ≡ part_size → k + n ≤ places → k ≤ j → j < k + n → record_at j (on_places f n k part) ≡ f (record_at j part)
  unfolding on_places
  on_places-at zero k j part whole top low high = absurd (omega arith)
  on_places-at (suc n) k j part whole top low high =
      by (eqb j k) refl λ more. on_places-at n (k + 1) j (on_place f k part) (patch-length part _ _ ∙ whole) (omega arith) more (omega arith)
    where
      by : (t : Bool) → eqb j k ≡ t → (k + 1 ≤ j → record_at j (on_places f n (k + 1) (on_place f k part)) ≡ f (record_at j (on_place f k part)))
          → record_at j (on_places f n (k + 1) (on_place f k part)) ≡ f (record_at j part)
      by true e more =
          let same = eqb-true j k e in
          on_places-before n (k + 1) j (on_place f k part) (omega arith)
          ∙ rw same (on_place-here f k part whole (omega arith) (keeps (record_at k part) ∙ record-length k part whole (omega arith)))
      by false e more = let ne = eqb-false j k e in more (omega arith) ∙ ap f (on_place-other f k part j ne (fits k part))

  pub on_places-each : (j : ℕ) (part : List ℕ) → length part ≡ part_size → j < places → record_at j (on_places f places 0 part) ≡ f (record_at j part)
  on_places-each j part whole h = on_places-at places 0 j part whole (omega arith) (omega arith) (omega arith)
