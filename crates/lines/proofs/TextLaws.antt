-- Laws of the line's text: texts one behind the other in a lent one (these, and `put_one`, no proof cites now; docs/PORT.md names them), a text at
-- the front of another, how wide a decimal is, and hex octet by octet. Assumes nothing.
use mathlib.Core.Path.{◌≡◌, refl, ap, ◌∙◌}
use mathlib.Core.List.{List, [], ◌∷◌, ◌++◌, append_assoc}
use Prim.Native.Nat.{ℕ, zero, suc, ◌+◌, ◌*◌, ◌-◌, ◌/◌, ◌%◌, ◌^◌, ◌≤◌, ◌<◌}
use native.Mathlib.Omega.{arith}
use native.Mathlib.Nat.{le_of_suc-le-suc, lt_of_not-le, pow-le-pow_right}
use native.Mathlib.Numerals.{add-one}
use lib.Dec.{ltb}
use lib.ListN.{length, take, get_or, set, length-append}
use borrow.Author.Tests.{ltb-true, ltb-false}
use Rattle.octets.specs.Stretch.{patch}
use Rattle.octets.specs.Number.{hex_digit}
use Rattle.octets.proofs.StretchLaws.{if-cases}
use Rattle.octets.proofs.PatchLaws.{patch-length, patch-next, set-patch, part-patch}
use Rattle.io.specs.Digits.{IsDigitCount}
use Rattle.lines.specs.Line.{width_from, hex_of, shown}

-- ---- texts one behind the other

-- the text so far: ys from the front of xs on, ending at `at`
pub record Said (xs text : List ℕ) (at : ℕ) (ys : List ℕ) : Type 0 where
  pub is : text ≡ patch xs 0 ys
  pub ends : at ≡ length ys

pub said_more : (zs : List ℕ) {xs text next ys : List ℕ} {at end : ℕ}
    → Said xs text at ys → next ≡ patch text at zs → end ≡ at + length zs → Said xs next end (ys ++ zs)
said_more zs {xs} {text} {next} {ys} {at} {end} s e f =
    let p : at ≡ 0 + length ys = omega (arith, s.ends) in
    record {
      is = e ∙ rw (s.is, p) (patch-next xs 0 ys zs);
      ends = rw (length-append ys zs) (omega (arith, f, s.ends));
    }

-- ---- a text at the front of another

-- what was said is the first octets of the text
pub told_is : (xs ys : List ℕ) {text : List ℕ} {n : ℕ} → text ≡ patch xs 0 ys → n ≡ length ys → n ≤ length xs → take n text ≡ ys
told_is xs ys e f h = rw (e, f) (part-patch xs 0 ys (omega (arith, f, h)))

-- so it lies inside the text
pub told-fits : (xs ys : List ℕ) {text : List ℕ} {n : ℕ} → text ≡ patch xs 0 ys → n ≡ length ys → n ≤ length xs
    → (n ≤ length text) × (n ≡ length (take n text))
told-fits xs ys e f h = (rw (e, patch-length xs 0 ys) h, rw (told_is xs ys e f h) f)

-- ---- decimals: the fewest digits are those that the definition finds

-- where m digits hold n, the fewest are no more
no_more : (n r m : ℕ) → 1 ≤ m → n < 10 ^ m → IsDigitCount 10 1 n r → r ≤ m
no_more n r m one holds f =
    let no : m < r → ⊥ = λ over.
    let p : 10 ^ (r - 1) ≤ n = f.2 (omega arith) in
    let q : 10 ^ m ≤ 10 ^ (r - 1) = pow-le-pow_right (omega arith) (omega arith) in
    omega arith in
    le_of_suc-le-suc (lt_of_not-le no)

-- a 64-bit number has at most 20
pub width-most : (n r : ℕ) → n < 18446744073709551616 → IsDigitCount 10 1 n r → r ≤ 20
width-most n r h f = no_more n r 20 (omega arith) (omega arith) f

pub width_is : (more k n r : ℕ) → IsDigitCount 10 1 n r → 1 ≤ k → k ≤ r → r ≤ k + more → width_from more k n ≡ r
unfolding width_from
width_is zero k n r f h i j = omega arith
width_is (suc more) k n r f h i j =
    if-cases (λ (w : ℕ). w ≡ r) (ltb n (10 ^ k)) k (width_from more (suc k) n)
    (λ t. let l = no_more n r k h (ltb-true n (10 ^ k) t) f in omega (arith, l))
    (λ t.
    let no : r ≤ k → ⊥ = λ under.
    let p : n < 10 ^ r = f.1 in
    let q : 10 ^ r ≤ 10 ^ k = pow-le-pow_right (omega arith) under in
    let s : 10 ^ k ≤ n = ltb-false n (10 ^ k) t in
    omega arith in
    width_is more (suc k) n r f (omega arith) (lt_of_not-le no) (omega arith))

-- ---- the reply

pub shown-some : (xs : List ℕ) → (length xs ≡ 0 → ⊥) → shown xs ≡ hex_of xs
shown-some [] h = absurd (h refl)
shown-some (x ∷ xs) h = refl

pub hex-length : (xs : List ℕ) → length (hex_of xs) ≡ 2 * length xs
unfolding hex_of
hex-length [] = refl
hex-length (x ∷ xs) = let e = hex-length xs in omega arith

-- the two digits of the octet x
abbrev pub high : ℕ → ℕ
high x = hex_digit (x / 16)

abbrev pub low : ℕ → ℕ
low x = hex_digit (x % 16)

hex-more : (xs : List ℕ) (i : ℕ) → i < length xs → hex_of (take i xs) ++ (high (get_or xs i 0) ∷ low (get_or xs i 0) ∷ []) ≡ hex_of (take (suc i) xs)
unfolding hex_of
hex-more [] i h = absurd (omega arith)
hex-more (x ∷ xs) zero h = refl
hex-more (x ∷ xs) (suc i) h = ap (λ (l : List ℕ). high x ∷ low x ∷ l) (hex-more xs i (omega arith))

put_one : (xs : List ℕ) (at : ℕ) (ys : List ℕ) (p v : ℕ) → p ≡ at + length ys → set (patch xs at ys) p v ≡ patch xs at (ys ++ (v ∷ []))
put_one xs at ys p v e = rw (e) (set-patch (patch xs at ys) (at + length ys) v ∙ patch-next xs at ys (v ∷ []))

-- two more digits
pub hex-turn : (start xs : List ℕ) (i : ℕ) {said : List ℕ} → i < length xs → said ≡ start ++ hex_of (take i xs)
    → said ++ (high (get_or xs i 0) ∷ low (get_or xs i 0) ∷ []) ≡ start ++ hex_of (take (i + 1) xs)
hex-turn start xs i h e =
    rw (e, add-one i, ← (hex-more xs i h)) (append_assoc start (hex_of (take i xs)) (high (get_or xs i 0) ∷ low (get_or xs i 0) ∷ []))
