-- `account_ok` says what `GoodPart` says, with a used and well-formed book record. Assumes nothing.
use mathlib.Core.Path.{◌≡◌, refl, sym, ap}
use mathlib.Core.Bool.{Bool, true, false, not, ◌||◌}
use mathlib.Core.List.{List, [], ◌∷◌}
use Prim.Native.Nat.{ℕ, zero, suc, ◌<◌}
use native.Mathlib.Omega.{arith}
use lib.ListN.{length, get_or}
use lib.Dec.{eqb}
use borrow.Author.Tests.{eqb-false, ne_eqb, not-true}
use Rattle.octets.specs.Stretch.{every}
use Rattle.octets.proofs.StretchLaws.{and_left, and_right, and_both, every-at}
use Rattle.octets.proofs.RowsLaws.{rows-length, rows_at}
use Rattle.records.specs.Layout.{record_size, places, id_of}
use Rattle.records.specs.Book.{used_ok}
use Rattle.records.specs.Record.{record_ok}
use Rattle.store.specs.Places.{records, record_at}
use Rattle.store.specs.Search.{is_empty}
use Rattle.store.specs.Account.{other_id, apart, places_ok, account_ok}
use Rattle.wellformed.specs.Good.{Clash, GoodPart}
use Rattle.wellformed.proofs.GoodIs.{both, or-second}

every-all : {A : Type 0} (p : A → Bool) (d : A) (xs : List A) → ((i : ℕ) → i < length xs → p (get_or xs i d) ≡ true) → every p xs ≡ true
unfolding every
every-all p d [] h = refl
every-all p d (x ∷ xs) h = and_both (p x) (every p xs) (h 0 (omega arith)) (every-all p d xs (λ i below. h (suc i) (omega arith)))

other-clash : (a b : List ℕ) → (is_empty a || other_id (id_of a) b) ≡ true → Clash a b → ⊥
other-clash a b h c =
    let other = or-second (is_empty b) (not (eqb (id_of b) (id_of a))) c.1 (or-second (is_empty a) (other_id (id_of a) b) c.0 h) in
    eqb-false (id_of b) (id_of a) (not-true (eqb (id_of b) (id_of a)) other) (sym c.2)

clash-other : (a b : List ℕ) → is_empty a ≡ false → (Clash a b → ⊥) → other_id (id_of a) b ≡ true
clash-other a b given h = by (is_empty b) refl
  where
    by : (t : Bool) → is_empty b ≡ t → (t || not (eqb (id_of b) (id_of a))) ≡ true
    by true e = refl
    by false e = ap not (ne_eqb (id_of b) (id_of a) (λ same. h (given, e, sym same)))

apart-clash : (rs : List (List ℕ)) → apart rs ≡ true → (i j : ℕ) → i < j → j < length rs → Clash (get_or rs i []) (get_or rs j []) → ⊥
unfolding apart
apart-clash [] h i j below inside c = absurd (omega arith)
apart-clash (r ∷ rs) h i zero below inside c = absurd (omega arith)
apart-clash (r ∷ rs) h zero (suc j) below inside c =
    let first = and_left (is_empty r || every (other_id (id_of r)) rs) (apart rs) h in
    let each = or-second (is_empty r) (every (other_id (id_of r)) rs) c.0 first in
    other-clash r (get_or rs j []) (rw c.0 (every-at (other_id (id_of r)) rs j [] each (omega arith))) c
apart-clash (r ∷ rs) h (suc i) (suc j) below inside c =
    apart-clash rs (and_right (is_empty r || every (other_id (id_of r)) rs) (apart rs) h) i j (omega arith) (omega arith) c

clash-apart : (rs : List (List ℕ)) → ((i j : ℕ) → i < j → j < length rs → Clash (get_or rs i []) (get_or rs j []) → ⊥) → apart rs ≡ true
unfolding apart
clash-apart [] h = refl
clash-apart (r ∷ rs) h =
    and_both (is_empty r || every (other_id (id_of r)) rs) (apart rs) (by (is_empty r) refl) (clash-apart rs (λ i j below inside. h (suc i) (suc j) (omega arith) (omega arith)))
  where
    by : (t : Bool) → is_empty r ≡ t → (t || every (other_id (id_of r)) rs) ≡ true
    by true e = refl
    by false e = every-all (other_id (id_of r)) [] rs (λ j inside. clash-other r (get_or rs j []) e (h 0 (suc j) (omega arith) (omega arith)))

module _ (last : ℕ) (part : List ℕ) where
  at : (k : ℕ) → k < places → get_or (records part) k [] ≡ record_at k part
  at k h = rows_at record_size places k part h

  pub places-good : places_ok last part ≡ true → GoodPart last part
  unfolding places_ok
  places-good h =
      let b = both (every (record_ok last) (records part)) (apart (records part)) h in
      let n = rows-length record_size places part in
      record {
        each = λ k h. rw (at k h) at (every-at (record_ok last) (records part) k [] b.0 (omega arith));
        apart = λ i j below inside c. apart-clash (records part) b.1 i j below (omega arith) (rw (at i (omega arith), at j inside) c);
      }

  pub good-places : GoodPart last part → places_ok last part ≡ true
  unfolding places_ok
  good-places g =
      let n = rows-length record_size places part in
      and_both (every (record_ok last) (records part)) (apart (records part))
      (every-all (record_ok last) [] (records part) (λ k h. let h' : k < places = omega arith in rw (at k h') (g.each k h')))
      (clash-apart (records part) λ i j below inside. let h' : j < places = omega arith in rw (at i (omega arith), at j h') (g.apart i j below h'))

-- ---- the account

module _ (book : List ℕ) (last : ℕ) (part : List ℕ) where
  pub account-used : account_ok book last part ≡ true → used_ok book ≡ true
  unfolding account_ok
  account-used h = and_left (used_ok book) (places_ok last part) h

  pub account-good : account_ok book last part ≡ true → GoodPart last part
  unfolding account_ok
  account-good h = places-good last part (and_right (used_ok book) (places_ok last part) h)

  pub good-account : used_ok book ≡ true → GoodPart last part → account_ok book last part ≡ true
  unfolding account_ok
  good-account used g = and_both (used_ok book) (places_ok last part) used (good-places last part g)
