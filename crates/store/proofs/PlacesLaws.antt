-- Laws of the sixteen places: a loop over them, a place that is found, a record lent and given back. Assumes nothing.
use mathlib.Core.Path.{◌≡◌, sym, ap, ◌∙◌}
use mathlib.Core.Bool.{Bool, ◌&&◌, ◌||◌}
use mathlib.Core.List.{List, [], ◌∷◌, ◌++◌}
use Prim.Native.Nat.{ℕ, zero, suc, ◌+◌, ◌-◌, ◌*◌, ◌≤◌, ◌<◌}
use native.Mathlib.Omega.{arith}
use native.Mathlib.Nat.{add-sub_cancel_left, mul-suc, mul-zero}
use Rattle.std.specs.Prelude.{Option}
use Rattle.std.proofs.lemmas.List.{length-append}
use Rattle.std.proofs.Math.Seq.{take-append_seam, drop-append_seam}
use lib.ListN.{length, take, drop}
use Rattle.octets.specs.Stretch.{every, patch}
use Rattle.octets.specs.Rows.{rows, rows_from}
use Rattle.octets.proofs.StretchLaws.{and_assoc, and-true, if-cases, part_length}
use Rattle.octets.proofs.RowsLaws.{rows-length, rows_more, rows_end}
use Rattle.octets.proofs.PatchLaws.{part-back}
use Rattle.records.specs.Layout.{record_size, places, part_size, id_of}
use Rattle.store.specs.Places.{record_at, Below, over, none, keep, found_of, lowest, on_place, on_places}
use Rattle.store.specs.Search.{is_empty}
use Rattle.store.specs.Account.{other_id, apart}
use Rattle.store.specs.declared.places.Best.{Best}

-- the records from place k on
abbrev pub from : ℕ → List ℕ → List (List ℕ)
from k xs = rows_from record_size places k xs

-- a fold over records of any size and number, those up to k folded into b, and the others in xs: it comes to `all` in the end
abbrev pub Left : {B : Type 0} → (B → ℕ → List ℕ → B) → ℕ → ℕ → B → ℕ → B → List ℕ → Type 0
Left f size count all k b xs = (m : ℕ) × (k + m ≡ count) × (length xs ≡ size * m) × (all ≡ over f b k (rows size m xs))

module _ {B : Type 0} (f : B → ℕ → List ℕ → B) (size count : ℕ) (all : B) (some : 0 < size) (k : ℕ) (b : B) (xs : List ℕ) where
  pub left-more : (x rest : List ℕ) → Left f size count all k b xs → xs ≡ x ++ rest → length x ≡ size → Left f size count all (k + 1) (f b k x) rest
  unfolding rows over
  left-more x rest (zero, n, l, e) cut h = absurd (omega (arith, mul-zero size, ap length cut, length-append x rest))
  left-more x rest (suc m, n, l, e) cut h =
      let front : take size xs ≡ x = rw (cut, ← h) (take-append_seam x rest) in
      let behind : drop size xs ≡ rest = rw (cut, ← h) (drop-append_seam x rest) in
      (m, omega arith, omega (arith, mul-suc size m, ap length cut, length-append x rest), rw (front, behind) at e)

  pub left-none : Left f size count all k b xs → length xs < size → all ≡ b
  unfolding rows over
  left-none (zero, n, l, e) short = e
  left-none (suc m, n, l, e) short = absurd (omega (arith, mul-suc size m))

-- the end of a fold over records of any size and number
pub over_last : (size count k : ℕ) (xs : List ℕ) {B : Type 0} (f : B → ℕ → List ℕ → B) (b : B) → count ≤ k → over f b k (rows_from size count k xs) ≡ b
unfolding over
over_last size count k xs f b h = rw (rows_end size count k xs h)

module _ (k : ℕ) (xs : List ℕ) (h : k < places) where
  pub every_more : (p : List ℕ → Bool) (so : Bool) → (so && every p (from k xs)) ≡ ((so && p (record_at k xs)) && every p (from (k + 1) xs))
  unfolding every
  every_more p so = rw (rows_more record_size places k xs h) (sym (and_assoc so (p (record_at k xs)) (every p (from (k + 1) xs))))

  pub apart_more : (so : Bool)
      → (so && apart (from k xs)) ≡ ((so && (is_empty (record_at k xs) || every (other_id (id_of (record_at k xs))) (from (k + 1) xs))) && apart (from (k + 1) xs))
  unfolding apart
  apart_more so =
      rw (rows_more record_size places k xs h)
      (sym (and_assoc so (is_empty (record_at k xs) || every (other_id (id_of (record_at k xs))) (from (k + 1) xs)) (apart (from (k + 1) xs))))

module _ (k : ℕ) (xs : List ℕ) (h : places ≤ k) where
  pub every-done : (p : List ℕ → Bool) (so : Bool) → (so && every p (from k xs)) ≡ so
  unfolding every
  every-done p so = rw (rows_end record_size places k xs h) (and-true so)

  pub apart-done : (so : Bool) → (so && apart (from k xs)) ≡ so
  unfolding apart
  apart-done so = rw (rows_end record_size places k xs h) (and-true so)

-- ---- a place that is found is one of the sixteen

abbrev Within : ℕ → Option Best → Type 0
Within n b = Below n (found_of b)

keep-within : (p : List ℕ → Bool) (rank : List ℕ → ℕ) (n k : ℕ) (b : Option Best) (r : List ℕ) → k < n → Within n b → Within n (keep p rank b k r)
unfolding keep
keep-within p rank n k b r h w = if-cases (Within n) _ _ _ (λ _. h) (λ _. w)

over-within : (p : List ℕ → Bool) (rank : List ℕ → ℕ) (n k : ℕ) (b : Option Best) (rs : List (List ℕ)) → k + length rs ≤ n → Within n b → Within n (over (keep p rank) b k rs)
unfolding over
over-within p rank n k b [] h w = w
over-within p rank n k b (r ∷ rs) h w = over-within p rank n (k + 1) (keep p rank b k r) rs (omega arith) (keep-within p rank n k b r (omega arith) w)

found_within : (n : ℕ) (b : Option Best) → Within n b → Below n (found_of b)
found_within n b w = w

pub lowest-below : (size count : ℕ) (p : List ℕ → Bool) (rank : List ℕ → ℕ) (xs : List ℕ) → Below count (lowest p rank (rows size count xs))
unfolding lowest
lowest-below size count p rank xs = over-within p rank count 0 none (rows size count xs) (omega (arith, rows-length size count xs)) tt

-- ---- a record lent as `&mut part[at..at + 256]` that has come back changed, as the borrow checker has the part then

pub lent_back : (f : List ℕ → List ℕ) (k : ℕ) (xs back : List ℕ) → length xs ≡ part_size → k < places
    → back ≡ f (take (record_size * k + record_size - record_size * k) (drop (record_size * k) xs))
    → length back ≡ length (take (record_size * k + record_size - record_size * k) (drop (record_size * k) xs))
    → take (record_size * k) xs ++ (back ++ drop (record_size * k + record_size - record_size * k) (drop (record_size * k) xs)) ≡ on_place f k xs
lent_back f k xs back whole h e kept =
    let at = record_size * k in
    let e' = rw (add-sub_cancel_left at record_size) at e in
    let n : length back ≡ record_size = (rw (add-sub_cancel_left at record_size) at kept) ∙ part_length at record_size xs (omega arith) in
    part-back xs at record_size back n (omega arith) ∙ ap (patch xs at) e'

-- ---- a change at each place

pub on_places-more : (f : List ℕ → List ℕ) (k : ℕ) (xs ys : List ℕ) → k < places → ys ≡ on_place f k xs → on_places f (places - k) k xs ≡ on_places f (places - (k + 1)) (k + 1) ys
unfolding on_places
on_places-more f k xs ys h e =
    let m : places - k ≡ suc (places - (k + 1)) = omega arith in
    rw (m, e)

pub on_places-end : (f : List ℕ → List ℕ) (k : ℕ) (xs : List ℕ) → places ≤ k → on_places f (places - k) k xs ≡ xs
unfolding on_places
on_places-end f k xs h =
    let m : places - k ≡ 0 = omega arith in
    rw m
