-- Whose message it is (document 01, "Effects"): an empty source means the callback's ton, npi and address; otherwise all three come from the
-- request. And the record that a message id names.
use Rattle.std.specs.Prelude.{ℕ, Bool, List, get_or, eqb, Option, Some, None}
use Rattle.octets.specs.Choice.{when◌then◌else◌}
use Rattle.records.specs.Book.{callback_of}
use Rattle.store.specs.Search.{place_of}

-- an address has a first character unless it is empty
abbrev pub no_address : List ℕ → Bool
no_address address = eqb (get_or address 2 0) 0

unfoldable pub source_for : List ℕ → List ℕ → List ℕ
source_for book source = when no_address source then callback_of book else source

-- an empty id names no record
unfoldable pub known : Option ℕ → List ℕ → Option ℕ
known None xs = None
known (Some id) xs = place_of id xs
