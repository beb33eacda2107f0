-- Laws of a stretch as a list of records. Assumes nothing.
use mathlib.Core.Path.{◌≡◌, refl, sym, ap, ◌∙◌}
use mathlib.Core.List.{List, [], ◌∷◌}
use Prim.Native.Nat.{ℕ, zero, suc, ◌+◌, ◌-◌, ◌*◌, ◌≤◌, ◌<◌}
use native.Mathlib.Omega.{arith}
use native.Mathlib.Nat.{mul-suc, mul-zero}
use lib.ListN.{length, take, drop, get_or, set, length-drop}
use lib.Seq.{drop-drop}
use Rattle.octets.specs.Stretch.{part, patch}
use Rattle.octets.specs.Rows.{rows, rows_from}
use Rattle.octets.proofs.PatchLaws.{part-patch, part-before, drop-after, drop-patch}

pub rows-length : (size count : ℕ) (xs : List ℕ) → length (rows size count xs) ≡ count
unfolding rows
rows-length size zero xs = refl
rows-length size (suc count) xs = ap suc (rows-length size count (drop size xs))

-- the record at k, and those behind it
pub rows_more : (size count k : ℕ) (xs : List ℕ) → k < count → rows_from size count k xs ≡ part (size * k) size xs ∷ rows_from size count (k + 1) xs
unfolding rows
rows_more size count k xs h =
    let e : count - k ≡ suc (count - (k + 1)) = omega arith in
    let k1 : k + 1 ≡ suc k = omega arith in
    let f : size * k + size ≡ size * (k + 1) = rw k1 (sym (mul-suc size k)) in
    rw (e, drop-drop size (size * k) xs, f)

pub rows_end : (size count k : ℕ) (xs : List ℕ) → count ≤ k → rows_from size count k xs ≡ []
unfolding rows
rows_end size count k xs h =
    let e : count - k ≡ 0 = omega arith in
    rw e

turn : (size k : ℕ) → size + size * k ≡ size * suc k
turn size k = let e = mul-suc size k in omega (arith, e)

-- the record at k is a part
pub rows_at : (size count k : ℕ) (xs : List ℕ) → k < count → get_or (rows size count xs) k [] ≡ part (size * k) size xs
unfolding rows
rows_at size zero k xs h = absurd (omega arith)
rows_at size (suc count) zero xs h = rw (mul-zero size)
rows_at size (suc count) (suc k) xs h =
    rows_at size count k (drop size xs) (omega arith) ∙ ap (take size) (drop-drop (size * k) size xs ∙ ap (λ (n : ℕ). drop n xs) (turn size k))

-- a record put over the one at k
pub rows-patch : (size count k : ℕ) (xs r : List ℕ) → k < count → size * count ≤ length xs → length r ≡ size
    → rows size count (patch xs (size * k) r) ≡ set (rows size count xs) k r
unfolding rows
rows-patch size zero k xs r h room e = absurd (omega arith)
rows-patch size (suc count) zero xs r h room e =
    let s = mul-suc size count in
    let here : take size (patch xs 0 r) ≡ r = rw e at (part-patch xs 0 r (omega (arith, s))) in
    let behind : drop size (patch xs 0 r) ≡ drop size xs = drop-after xs 0 r size (omega arith) in
    rw (mul-zero size, here, behind)
rows-patch size (suc count) (suc k) xs r h room e =
    let s = mul-suc size count in
    let t : size * suc k ≡ size + size * k = sym (turn size k) in
    let before : take size (patch xs (size + size * k) r) ≡ take size xs = part-before xs (size + size * k) r 0 size (omega arith) in
    let left : size * count ≤ length (drop size xs) = rw (length-drop size xs) (omega (arith, s)) in
    rw (t, before, drop-patch xs size (size * k) r, rows-patch size count k (drop size xs) r (omega arith) left e)
