-- Numbers in octets, the most significant first, and as hex digits.
use Rattle.std.specs.Prelude.{ℕ, ◌+◌, ◌*◌, ◌/◌, ◌%◌, List, [], ◌∷◌, ltb}
use Rattle.octets.specs.Choice.{when◌then◌else◌}

-- the number that digits of a base write onto a number that stands before them
unfoldable pub onto : ℕ → ℕ → List ℕ → ℕ
onto base v [] = v
onto base v (d ∷ ds) = onto base (v * base + d) ds

-- the number that octets write
abbrev pub number : List ℕ → ℕ
number xs = onto 256 0 xs

-- a 32-bit number in four octets
unfoldable pub octets4 : ℕ → List ℕ
octets4 n = n / 16777216 % 256 ∷ n / 65536 % 256 ∷ n / 256 % 256 ∷ n % 256 ∷ []

-- the upper-case hex digit of a number below 16: "0" to "9", "A" to "F"
unfoldable pub hex_digit : ℕ → ℕ
hex_digit d = when ltb d 10 then d + 48 else d + 55

-- a 32-bit number as eight upper-case hex digits
unfoldable pub hex8 : ℕ → List ℕ
hex8 n =
    hex_digit (n / 268435456 % 16)
    ∷ hex_digit (n / 16777216 % 16)
    ∷ hex_digit (n / 1048576 % 16)
    ∷ hex_digit (n / 65536 % 16)
    ∷ hex_digit (n / 4096 % 16)
    ∷ hex_digit (n / 256 % 16)
    ∷ hex_digit (n / 16 % 16)
    ∷ hex_digit (n % 16)
    ∷ []
