-- A place that a search finds is one of the sixteen, and the record there passes the search's test; where it finds none, no record does. Assumes
-- nothing.
use mathlib.Core.Path.{◌≡◌, refl, sym, ap, subst, ◌∙◌}
use mathlib.Core.Bool.{Bool, true, false, ◌&&◌}
use mathlib.Core.List.{List, [], ◌∷◌}
use Prim.Native.Nat.{ℕ, zero, suc, ◌+◌, ◌*◌, ◌<◌}
use native.Mathlib.Nat.{zero-add, add-zero}
use native.Mathlib.Omega.{arith}
use lib.ListN.{length, get_or}
use Rattle.std.specs.Prelude.{Option, Some, None}
use Rattle.octets.specs.Stretch.{part}
use Rattle.octets.specs.Rows.{rows}
use Rattle.octets.proofs.StretchLaws.{and_left, and-true, if-cases}
use Rattle.octets.proofs.RowsLaws.{rows-length, rows_at}
use Rattle.records.specs.Layout.{record_size, places}
use Rattle.store.specs.Places.{records, record_at, OnePlace, over, none, beats, keep, found_of, lowest}
use Rattle.store.specs.declared.places.Best.{Best}
use Rattle.store.proofs.PlacesLaws.{lowest-below}

module _ (passes : List ℕ → Bool) (rank : List ℕ → ℕ) where
  -- the best so far passes, with `at i` the record at place i
  abbrev Held : (ℕ → List ℕ) → Option Best → Type 0
  Held at (Some b) = passes (at b.place) ≡ true
  Held at None = Unit

  over-held : (at : ℕ → List ℕ) (k : ℕ) (b : Option Best) (rs : List (List ℕ)) → ((i : ℕ) → i < length rs → get_or rs i [] ≡ at (k + i)) → Held at b
      → Held at (over (keep passes rank) b k rs)
  unfolding over keep
  over-held at k b [] e h = h
  over-held at k b (r ∷ rs) e h =
      over-held at (k + 1) (keep passes rank b k r) rs
      (λ i below. e (suc i) (omega arith) ∙ ap at (omega arith))
      (if-cases (Held at) _ _ _ (λ p. ap passes (sym (e 0 (omega arith) ∙ ap at (add-zero k))) ∙ and_left _ _ p) (λ _. h))

  -- of any count of rows of any size: those of a part, those of the book
  pub row-passes : (size count k : ℕ) (xs : List ℕ) → lowest passes rank (rows size count xs) ≡ Some k → passes (part (size * k) size xs) ≡ true
  unfolding lowest
  row-passes size count k xs = by best held
    where
      row : ℕ → List ℕ
      row i = part (size * i) size xs

      best : Option Best
      best = over (keep passes rank) none 0 (rows size count xs)

      held : Held row best
      held =
          over-held row 0 none (rows size count xs)
          (λ i h. rows_at size count i xs (omega (arith, rows-length size count xs)) ∙ ap row (sym (zero-add i)))
          tt

      by : (b : Option Best) → Held row b → found_of b ≡ Some k → passes (row k) ≡ true
      by (Some b) h e = let same : b.place ≡ k = cc in ap (λ (i : ℕ). passes (row i)) (sym same) ∙ h
      by None h e = let z : ◌≡◌ {A = ℕ} 0 1 = cc in absurd (omega arith)

  module _ (part : List ℕ) (k : ℕ) (found : lowest passes rank (records part) ≡ Some k) where
    pub found-place : k < places
    found-place = subst OnePlace found (lowest-below record_size places passes rank part)

    pub found-passes : passes (record_at k part) ≡ true
    found-passes = row-passes record_size places k part found

  -- a record that passes is kept unless there is one already
  keep-none : (b : Option Best) (k : ℕ) (r : List ℕ) → keep passes rank b k r ≡ None → (b ≡ None) × (passes r ≡ false)
  unfolding keep
  keep-none b k r =
      if-cases (λ (x : Option Best). x ≡ None → (b ≡ None) × (passes r ≡ false)) (passes r && beats (rank r) b) _ b
      (λ _ e. let z : ◌≡◌ {A = ℕ} 0 1 = cc in absurd (omega arith))
      (λ t e. (e, sym (and-true (passes r)) ∙ rw e at t))

  over_none : (b : Option Best) (k : ℕ) (rs : List (List ℕ)) → over (keep passes rank) b k rs ≡ None
      → (b ≡ None) × ((i : ℕ) → i < length rs → passes (get_or rs i []) ≡ false)
  unfolding over
  over_none b k [] e = (e, λ i h. absurd (omega arith))
  over_none b k (r ∷ rs) e =
      let rest = over_none (keep passes rank b k r) (k + 1) rs e in
      let first = keep-none b k r rest.0 in
      (first.0, elim [ zero ↦ λ _. first.1 | suc i ↦ λ h. rest.1 i (omega arith) ])

  pub found_none : (part : List ℕ) → lowest passes rank (records part) ≡ None → (k : ℕ) → k < places → passes (record_at k part) ≡ false
  unfolding lowest
  found_none part nowhere k h =
      ap passes (sym (rows_at record_size places k part h))
      ∙ (over_none none 0 (records part) (by (over (keep passes rank) none 0 (records part)) nowhere)).1 k (omega (arith, rows-length record_size places part))
    where
      by : (b : Option Best) → found_of b ≡ None → b ≡ None
      by (Some b) e = let z : ◌≡◌ {A = ℕ} 0 1 = cc in absurd (omega arith)
      by None e = refl
