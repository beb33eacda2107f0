-- The text of a line (document 01, "The printing program"): answer, consumed count, and the reply in upper-case hex or "-".
use Rattle.std.specs.Prelude.{ℕ, zero, suc, ◌/◌, ◌%◌, ◌^◌, List, [], ◌∷◌, ◌++◌, ltb}
use Rattle.octets.specs.Choice.{when◌then◌else◌}
use Rattle.octets.specs.Number.{hex_digit}
use Rattle.io.specs.Digits.{last_digits}

-- the first of k, k + 1, .., k + more digits that hold n
unfoldable pub width_from : ℕ → ℕ → ℕ → ℕ
width_from zero k n = k
width_from (suc more) k n = when ltb n (10 ^ k) then k else width_from more (suc k) n

-- a 64-bit number as its decimal digits, of which there are 1 to 20
unfoldable pub decimal : ℕ → List ℕ
decimal n = last_digits 10 (width_from 19 1 n) n

-- two upper-case digits for each octet
unfoldable pub hex_of : List ℕ → List ℕ
hex_of [] = []
hex_of (x ∷ xs) = hex_digit (x / 16) ∷ hex_digit (x % 16) ∷ hex_of xs

abbrev pub shown : List ℕ → List ℕ
shown [] = 45 ∷ []
shown (x ∷ xs) = hex_of (x ∷ xs)

abbrev pub space : List ℕ
space = 32 ∷ []

abbrev pub newline : List ℕ
newline = 10 ∷ []

unfoldable pub line : ℕ → ℕ → List ℕ → List ℕ
line answer consumed reply = ((((decimal answer ++ space) ++ decimal consumed) ++ space) ++ shown reply) ++ newline

-- two numbers of 20 digits, two spaces, 44 octets in hex and the line's end
abbrev pub line_room : ℕ
line_room = 131

-- "bad record"
abbrev pub bad_record : List ℕ
bad_record = 98 ∷ 97 ∷ 100 ∷ 32 ∷ 114 ∷ 101 ∷ 99 ∷ 111 ∷ 114 ∷ 100 ∷ newline
