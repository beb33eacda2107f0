-- Where the next field of a body starts, and the status of the first field that was refused, 0 where none was. Fields go from left to right:
-- behind a refusal none is looked at.
use Rattle.std.specs.Prelude.{ℕ, ◌+◌, Bool, not, ◌&&◌, List, length, ltb, eqb}
use Rattle.octets.specs.Choice.{when◌then◌else◌}
use Rattle.wire.specs.Status.{invalid_command_length}

pub record Cursor : Type 0 where
  pub at : ℕ
  pub status : ℕ

abbrev pub start : Cursor
start = record { at = 0; status = 0 }

abbrev pub refused : Cursor → Bool
refused c = not (eqb c.status 0)

abbrev pub refuse : Cursor → ℕ → Cursor
refuse c status = record { at = c.at; status = status }

-- n octets on
abbrev pub beyond : Cursor → ℕ → Cursor
beyond c n = record { at = c.at + n; status = 0 }

-- refused where both values are given
unfoldable pub not_both : ℕ → ℕ → ℕ → Cursor → Cursor
not_both a b bad c = when eqb c.status 0 && not (eqb a 0) && not (eqb b 0) then refuse c bad else c

-- the status of a whole body: octets remain: 2
unfoldable pub end_of : List ℕ → Cursor → ℕ
end_of body c =
    when refused c then c.status
    else when ltb c.at (length body) then invalid_command_length
    else 0
