-- The number that hex digits write, along a loop, and its bound. Assumes nothing.
use mathlib.Core.Path.{◌≡◌}
use mathlib.Core.List.{List, map}
use Prim.Native.Nat.{ℕ, ◌+◌, ◌*◌, ◌^◌, ◌≤◌, ◌<◌}
use native.Mathlib.Nat.{pow-suc, pow-le-pow_right}
use native.Mathlib.Numerals.{add-one}
use native.Mathlib.Omega.{arith}
use lib.ListN.{length, drop, get_or, drop_of_length-le}
use lib.Seq.{drop-cons}
use Rattle.octets.specs.Number.{onto}
use Rattle.forms.specs.Text.{nibble}

pub hex-more : (xs : List ℕ) (i v : ℕ) → i < length xs
    → onto 16 v (map nibble (drop i xs)) ≡ onto 16 (v * 16 + nibble (get_or xs i 0)) (map nibble (drop (i + 1) xs))
unfolding onto
hex-more xs i v h = rw (drop-cons xs i 0 h, add-one i)

pub hex-end : (xs : List ℕ) (i v : ℕ) → length xs ≤ i → onto 16 v (map nibble (drop i xs)) ≡ v
unfolding onto
hex-end xs i v h = rw (drop_of_length-le xs {i = i} h)

-- one digit more
pub sixteenfold : (v i d : ℕ) → v < 16 ^ i → d < 16 → v * 16 + d < 16 ^ (i + 1)
sixteenfold v i d h k = rw (add-one i, pow-suc 16 i) (omega arith)

-- seven digits leave room for an eighth in 32 bits
pub seven : (v i : ℕ) → v < 16 ^ i → i < 8 → v < 268435456
seven v i h k = omega (arith, pow-le-pow_right {n = 16} (omega arith) {i = i} {j = 7} (omega arith))
