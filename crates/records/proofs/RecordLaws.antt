-- What the state octet tells of a record, and the callback address of a book record. Assumes nothing.
use mathlib.Core.Path.{◌≡◌, refl, sym}
use mathlib.Core.Bool.{Bool, true, false, not, ◌&&◌}
use mathlib.Core.List.{List, [], ◌∷◌}
use Prim.Native.Nat.{ℕ, ◌≤◌, ◌<◌}
use native.Mathlib.Omega.{arith}
use lib.ListN.{length, drop, get_or}
use lib.Dec.{eqb}
use borrow.Author.Tests.{eqb-true}
use Rattle.octets.specs.Choice.{when◌then◌else◌}
use Rattle.octets.specs.Stretch.{every, is_zero, zeros, part}
use Rattle.octets.proofs.StretchLaws.{and_left, and-false, or-false, every-at, every_drop, every_take}
use Rattle.forms.specs.Class.{lead}
use Rattle.forms.proofs.ClassLaws.{within-high}
use Rattle.forms.specs.declared.text.Form.TheVariants.{Digits}
use Rattle.forms.specs.Text.{formed}
use Rattle.forms.specs.Field.{text_of, is_field}
use Rattle.records.specs.Layout.{state_of}
use Rattle.records.specs.Record.{message_ok, record_ok}
use Rattle.records.specs.Book.{book_ok, used_ok}

-- of state 0: all zero or ill formed
pub record-empty : (last : ℕ) (r : List ℕ) → state_of r ≡ 0 → zeros r ≡ record_ok last r
unfolding record_ok message_ok
record-empty last r e = rw e (sym (or-false (zeros r)))

-- of another state: not all zero
pub zeros-not : (r : List ℕ) → 0 < length r → (get_or r 0 0 ≡ 0 → ⊥) → zeros r ≡ false
zeros-not r h ne = by (zeros r) refl
  where
    by : (t : Bool) → zeros r ≡ t → t ≡ false
    by true e = absurd (ne (eqb-true (get_or r 0 0) 0 (every-at is_zero r 0 0 e h)))
    by false e = refl

pub record-message : (last : ℕ) (r : List ℕ) → 0 < length r → (state_of r ≡ 0 → ⊥) → message_ok last r ≡ record_ok last r
unfolding record_ok
record-message last r h ne = rw (zeros-not r h ne)

-- all zero: of state 0
pub zeros-state : (r : List ℕ) → zeros r ≡ true → state_of r ≡ 0
unfolding every
zeros-state [] h = refl
zeros-state (x ∷ xs) h = eqb-true x 0 (and_left _ _ h)

-- no state is above 5
pub record-state : (last : ℕ) (r : List ℕ) → record_ok last r ≡ true → state_of r ≤ 5
unfolding record_ok message_ok
record-state last r h = by (zeros r) refl
  where
    by : (t : Bool) → zeros r ≡ t → state_of r ≤ 5
    by true e = omega (arith, zeros-state r e)
    by false e =
        let m : message_ok last r ≡ true = (rw e at h) in
        within-high 1 5 (state_of r) (and_left _ _ (and_left _ _ (and_left _ _ (and_left _ _ (and_left _ _ m)))))

-- ---- zeros in zeros

pub zeros-part : (at n : ℕ) (xs : List ℕ) → zeros xs ≡ true → zeros (part at n xs) ≡ true
zeros-part at n xs h = every_take is_zero n (drop at xs) (every_drop is_zero at xs h)

-- a text in zeros is empty, and so no callback address
digits-not-zero : (field : List ℕ) → zeros field ≡ true → is_field Digits field ≡ false
unfolding is_field text_of formed lead every when◌then◌else◌
digits-not-zero [] h = refl
digits-not-zero (x ∷ xs) h = rw (eqb-true x 0 (and_left (eqb x 0) (every is_zero xs) h))

unused : (b : List ℕ) → zeros b ≡ true → book_ok b ≡ false
unfolding book_ok
unused b h = simp (digits-not-zero (part 40 21 b) (zeros-part 40 21 b h), and-false)

-- a book record that is well formed is used
pub used-book : (b : List ℕ) → book_ok b ≡ used_ok b
unfolding used_ok
used-book b = by (zeros b) refl
  where
    by : (t : Bool) → zeros b ≡ t → book_ok b ≡ (not t && book_ok b)
    by true e = unused b e
    by false e = refl
