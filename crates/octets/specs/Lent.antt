-- A lent slice and its parts, each "itself as part" of what was lent, "not a copy" (document 01): where a part lies, and the octets that it
-- holds. A contract that returns a part is an equality of the two together, so that equal octets elsewhere don't meet it.
use Rattle.std.specs.Prelude.{ℕ, ◌+◌, min, List, length, take, drop}
use Rattle.std.specs.Borrow.{Bor}

-- where a slice starts, a block of memory and an octet in it, and what it holds
pub record Lent : Type 0 where
  pub place : ℕ × ℕ
  pub octets : List ℕ

abbrev pub lent : Bor (List ℕ) → Lent
lent s = record { place = s.ref_ptr; octets = s.now }

-- what lies from `at` on; where the slice ends before that, the empty part at its end
abbrev pub lent_from : ℕ → Lent → Lent
lent_from at s = record { place = (s.place.0, min at (length s.octets) + s.place.1); octets = drop at s.octets }

-- the first n octets, or all where there are fewer
abbrev pub lent_first : ℕ → Lent → Lent
lent_first n s = record { place = s.place; octets = take n s.octets }

-- the n octets from `at` on
abbrev pub lent_part : ℕ → ℕ → Lent → Lent
lent_part at n s = lent_first n (lent_from at s)
