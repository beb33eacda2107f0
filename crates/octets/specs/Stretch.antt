-- Stretches of octets, as lists: a part, a list with a part replaced, and tests.
use Rattle.std.specs.Prelude.{ℕ, zero, suc, ◌-◌, List, [], ◌∷◌, ◌++◌, Bool, true, false, ◌&&◌, ◌||◌, length, take, drop, replicate, eqb}

-- the n octets from `at` on
abbrev pub part : ℕ → ℕ → List ℕ → List ℕ
part at n xs = take n (drop at xs)

-- xs with the octets from `at` on replaced by ys, as far as xs goes
unfoldable pub patch : List ℕ → ℕ → List ℕ → List ℕ
patch [] at ys = []
patch (x ∷ xs) zero [] = x ∷ xs
patch (x ∷ xs) zero (y ∷ ys) = y ∷ patch xs zero ys
patch (x ∷ xs) (suc at) ys = x ∷ patch xs at ys

-- a text in a field of n octets, zeros behind it
abbrev pub padded : ℕ → List ℕ → List ℕ
padded n text = text ++ replicate (n - length text) 0

-- the two are equal, octet for octet
unfoldable pub same : List ℕ → List ℕ → Bool
same [] [] = true
same [] (y ∷ ys) = false
same (x ∷ xs) [] = false
same (x ∷ xs) (y ∷ ys) = eqb x y && same xs ys

-- each element passes the test
unfoldable pub every : {A : Type 0} → (A → Bool) → List A → Bool
every p [] = true
every p (x ∷ xs) = p x && every p xs

abbrev pub is_zero : ℕ → Bool
is_zero x = eqb x 0

abbrev pub zeros : List ℕ → Bool
zeros xs = every is_zero xs

-- n is one of them
abbrev pub among : ℕ → List ℕ → Bool
among n [] = false
among n (x ∷ xs) = eqb n x || among n xs
