-- When an account is well formed (document 01, "The account book and the table").
use Rattle.std.specs.Prelude.{ℕ, Bool, true, not, ◌&&◌, ◌||◌, List, [], ◌∷◌, eqb}
use Rattle.octets.specs.Stretch.{every}
use Rattle.records.specs.Layout.{id_of}
use Rattle.records.specs.Record.{record_ok}
use Rattle.records.specs.Book.{used_ok}
use Rattle.store.specs.Places.{records}
use Rattle.store.specs.Search.{is_empty}

-- empty, or with another id
abbrev pub other_id : ℕ → List ℕ → Bool
other_id id r = is_empty r || not (eqb (id_of r) id)

-- no two non-empty ones share an id
unfoldable pub apart : List (List ℕ) → Bool
apart [] = true
apart (r ∷ rs) = (is_empty r || every (other_id (id_of r)) rs) && apart rs

unfoldable pub places_ok : ℕ → List ℕ → Bool
places_ok last xs = every (record_ok last) (records xs) && apart (records xs)

-- its book record is used and well formed, its 16 records are, and no two non-empty ones share an id
unfoldable pub account_ok : List ℕ → ℕ → List ℕ → Bool
account_ok book last xs = used_ok book && places_ok last xs
