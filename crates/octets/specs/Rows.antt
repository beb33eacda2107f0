-- A stretch of octets as a list of records of one size.
use Rattle.std.specs.Prelude.{ℕ, zero, suc, ◌-◌, ◌*◌, List, [], ◌∷◌, take, drop}

-- the first `count` records of `size` octets
unfoldable pub rows : ℕ → ℕ → List ℕ → List (List ℕ)
rows size zero xs = []
rows size (suc count) xs = take size xs ∷ rows size count (drop size xs)

-- those from the k-th on, of `count` in all
abbrev pub rows_from : ℕ → ℕ → ℕ → List ℕ → List (List ℕ)
rows_from size count k xs = rows size (count - k) (drop (size * k) xs)
