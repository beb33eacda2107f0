-- An outcome (document 01, "Numbers a caller gets"): it stores state, error code and final date, taken from the call's stamp, if a waiting
-- message has that id.
use Rattle.std.specs.Prelude.{ℕ, Bool, true, false, List}
use Rattle.octets.specs.Choice.{when◌then◌else◌}
use Rattle.store.specs.Places.{record_at, on_place, on_found}
use Rattle.store.specs.Search.{waiting, place_of}
use Rattle.changes.specs.Change.{finished}

-- whether one had it, and the account's part afterwards
pub record Reported : Type 0 where
  pub waited : Bool
  pub part : List ℕ

abbrev pub told : Bool → List ℕ → Reported
told waited part = record { waited = waited; part = part }

unfoldable pub reported : List ℕ → ℕ → ℕ → ℕ → List ℕ → Reported
reported stamp id state error part =
    on_found (place_of id part)
    (λ k. when waiting (record_at k part) then told true (on_place (finished state error stamp) k part) else told false part)
    (told false part)
