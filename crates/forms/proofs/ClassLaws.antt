-- Laws of `lead`: how far `position` goes, and what the count says. Assumes nothing.
use mathlib.Core.Path.{◌≡◌, refl, sym, ap, ◌∙◌}
use mathlib.Core.Bool.{Bool, true, false, not, cond, ◌&&◌}
use mathlib.Core.List.{List, [], ◌∷◌, ◌++◌}
use Prim.Native.Nat.{ℕ, zero, suc, ◌+◌, ◌≤◌}
use native.Mathlib.Omega.{arith}
use lib.ListN.{length, replicate}
use lib.Dec.{eqb, leb, ltb, eqb-suc-suc, eqb-zero-suc}
use borrow.Author.Tests.{leb-true, ltb-false}
use Rattle.std.proofs.Common.{Some, None, position, unwrap_or}
use Rattle.std.specs.List.{prefix_len}
use Rattle.octets.specs.Choice.{when◌then◌else◌}
use Rattle.octets.specs.Stretch.{every}
use Rattle.octets.proofs.StretchLaws.{and_left, and_right, if-true}
use Rattle.forms.specs.Class.{within, lead}

pub lead-within : (p : ℕ → Bool) (xs : List ℕ) → lead p xs ≤ length xs
unfolding lead when◌then◌else◌
lead-within p [] = omega arith
lead-within p (x ∷ xs) = by (p x) (lead-within p xs)
  where
    by : (t : Bool) {n m : ℕ} → n ≤ m → (when t then suc n else 0) ≤ suc m
    by true h = omega arith
    by false h = omega arith

-- std's count of those that don't fail, and what `position` makes of a count
passing : (p : ℕ → Bool) (xs : List ℕ) → prefix_len (λ x. not (not (p x))) xs ≡ lead p xs
unfolding lead when◌then◌else◌
passing p [] = refl
passing p (x ∷ xs) = by (p x) (passing p xs)
  where
    by : (t : Bool) {n m : ℕ} → n ≡ m → cond (not (not t)) (1 + n) 0 ≡ (when t then suc m else 0)
    by true e = omega arith
    by false e = refl

clipped : (n m : ℕ) → n ≤ m → unwrap_or (cond (ltb n m) (Some n) None) m ≡ n
clipped n m h = by (ltb n m) refl
  where
    by : (t : Bool) → ltb n m ≡ t → unwrap_or (cond t (Some n) None) m ≡ n
    by true e = refl
    by false e = omega (arith, ltb-false n m e)

-- a run ends at the first element that fails, or with the list
pub lead-position : (p : ℕ → Bool) (xs : List ℕ) → unwrap_or (position (λ x. not (p x)) xs) (length xs) ≡ lead p xs
lead-position p xs = rw (passing p xs) (clipped (lead p xs) (length xs) (lead-within p xs))

-- every element passes where the run goes to the end
pub every-lead : (p : ℕ → Bool) (xs : List ℕ) → every p xs ≡ eqb (lead p xs) (length xs)
unfolding every lead when◌then◌else◌
every-lead p [] = refl
every-lead p (x ∷ xs) = by (p x) (every p xs) (lead p xs) (length xs) (every-lead p xs)
  where
    by : (t b : Bool) (n m : ℕ) → b ≡ eqb n m → (t && b) ≡ eqb (when t then suc n else 0) (suc m)
    by true b n m h = h ∙ sym (eqb-suc-suc n m)
    by false b n m h = sym (eqb-zero-suc m)

-- a count passes a list of the class, and goes no further than an octet that isn't
pub lead-append : (p : ℕ → Bool) (xs ys : List ℕ) → lead p ys ≡ 0 → lead p (xs ++ ys) ≡ lead p xs
unfolding lead when◌then◌else◌
lead-append p [] ys e = e
lead-append p (x ∷ xs) ys e = ap (λ (n : ℕ). when p x then suc n else 0) (lead-append p xs ys e)

pub lead-all : (p : ℕ → Bool) (xs : List ℕ) → every p xs ≡ true → lead p xs ≡ length xs
unfolding every lead
lead-all p [] h = refl
lead-all p (x ∷ xs) h =
    if-true (p x) (suc (lead p xs)) 0 (and_left (p x) (every p xs) h) ∙ ap suc (lead-all p xs (and_right (p x) (every p xs) h))

pub lead-zeros : (p : ℕ → Bool) (n : ℕ) → p 0 ≡ false → lead p (replicate n 0) ≡ 0
unfolding lead when◌then◌else◌
lead-zeros p zero h = refl
lead-zeros p (suc n) h = rw h

pub within_low : (low high x : ℕ) → within low high x ≡ true → low ≤ x
within_low low high x h = leb-true low x (and_left (leb low x) (leb x high) h)

pub within-high : (low high x : ℕ) → within low high x ≡ true → x ≤ high
within-high low high x h = leb-true x high (and_right (leb low x) (leb x high) h)
