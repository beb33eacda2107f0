-- Laws of numbers in octets. Assumes nothing.
use mathlib.Core.Path.{◌≡◌, refl, ◌∙◌}
use mathlib.Core.List.{List, [], ◌∷◌}
use Prim.Native.Nat.{ℕ, suc, ◌+◌, ◌*◌, ◌/◌, ◌%◌, ◌≤◌, ◌<◌}
use native.Mathlib.Omega.{arith}
use native.Mathlib.Nat.{div-div-eq-div-mul, div-add-mod', mod-eq_of_lt}
use lib.ListN.{length, get_or}
use lib.Seq.{drop-cons}
use Rattle.octets.specs.Stretch.{part}
use Rattle.octets.specs.Number.{onto, number, octets4}

-- four octets, one by one
pub four : (xs : List ℕ) (at : ℕ) → at + 4 ≤ length xs
    → part at 4 xs ≡ get_or xs at 0 ∷ get_or xs (at + 1) 0 ∷ get_or xs (at + 2) 0 ∷ get_or xs (at + 3) 0 ∷ []
four xs at h =
    let e1 : at + 1 ≡ suc at = omega arith in
    let e2 : at + 2 ≡ suc (suc at) = omega arith in
    let e3 : at + 3 ≡ suc (suc (suc at)) = omega arith in
    rw (e1, e2, e3, drop-cons xs at 0 (omega arith), drop-cons xs (suc at) 0 (omega arith), drop-cons xs (suc (suc at)) 0 (omega arith), drop-cons xs (suc (suc (suc at))) 0 (omega arith))

-- what four octets write
pub number-four : (a b c d : ℕ) → number (a ∷ b ∷ c ∷ d ∷ []) ≡ a * 16777216 + b * 65536 + c * 256 + d
unfolding onto
number-four a b c d = omega arith

pub octets4-length : (n : ℕ) → length (octets4 n) ≡ 4
unfolding octets4
octets4-length n = refl

-- a 32-bit number written is the number read
pub number-octets4 : (n : ℕ) → n < 4294967296 → number (octets4 n) ≡ n
unfolding octets4
number-octets4 n h =
    let a = div-div-eq-div-mul n 256 256 in
    let b = div-div-eq-div-mul n 65536 256 in
    let top = mod-eq_of_lt {n = n / 16777216} {m = 256} (omega arith) in
    number-four (n / 16777216 % 256) (n / 65536 % 256) (n / 256 % 256) (n % 256)
    ∙ omega (arith, a, b, top, div-add-mod' n 256, div-add-mod' (n / 256) 256, div-add-mod' (n / 65536) 256)
