-- Classes of octets, as document 01 names them under "Fields and their status".
use Rattle.std.specs.Prelude.{ℕ, suc, Bool, not, ◌&&◌, ◌||◌, List, [], ◌∷◌, ltb, leb, eqb}
use Rattle.octets.specs.Choice.{when◌then◌else◌}
use Rattle.forms.specs.declared.class.Class.{Class}
use Rattle.forms.specs.declared.class.Class.TheVariants.{NotNul, Ascii, Space, Decimal, Hexadecimal}

abbrev pub within : ℕ → ℕ → ℕ → Bool
within low high x = leb low x && leb x high

-- "0" to "9"
abbrev pub decimal : ℕ → Bool
decimal x = within 48 57 x

-- "0" to "9", "A" to "F", "a" to "f"
abbrev pub hexadecimal : ℕ → Bool
hexadecimal x = decimal x || within 65 70 x || within 97 102 x

abbrev pub in_class : Class → ℕ → Bool
in_class NotNul x = not (eqb x 0)
in_class Ascii x = ltb x 128
in_class Space x = eqb x 32
in_class Decimal x = decimal x
in_class Hexadecimal x = hexadecimal x

-- how many octets a list begins with that pass the test
unfoldable pub lead : (ℕ → Bool) → List ℕ → ℕ
lead p [] = 0
lead p (x ∷ xs) = when p x then suc (lead p xs) else 0
