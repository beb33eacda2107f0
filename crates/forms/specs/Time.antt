-- Times (document 01, "Fields and their status"; 002, 7.5): the 16 characters YYMMDDhhmmsstnnp.
use Rattle.std.specs.Prelude.{ℕ, ◌+◌, ◌-◌, ◌*◌, Bool, false, ◌&&◌, ◌||◌, List, length, get_or, eqb}
use Rattle.octets.specs.Choice.{when◌then◌else◌}
use Rattle.forms.specs.Class.{within, decimal}

abbrev pub time_length : ℕ
time_length = 16

-- two decimal digits, a number from low to high
unfoldable pub two_digits : ℕ → ℕ → ℕ → ℕ → Bool
two_digits low high a b = when decimal a && decimal b then within low high ((a - 48) * 10 + (b - 48)) else false

-- "+" or "-"
abbrev pub signed : ℕ → Bool
signed p = eqb p 43 || eqb p 45

-- month 01-12, day 01-31, hour 00-23, minute and second 00-59, tenths a digit, nn 00-48, p "+" or "-"
unfoldable pub is_time : List ℕ → Bool
is_time t =
    when eqb (length t) time_length
    then (two_digits 0 99 (get_or t 0 0) (get_or t 1 0)
    && two_digits 1 12 (get_or t 2 0) (get_or t 3 0)
    && two_digits 1 31 (get_or t 4 0) (get_or t 5 0)
    && two_digits 0 23 (get_or t 6 0) (get_or t 7 0)
    && two_digits 0 59 (get_or t 8 0) (get_or t 9 0)
    && two_digits 0 59 (get_or t 10 0) (get_or t 11 0)
    && decimal (get_or t 12 0)
    && two_digits 0 48 (get_or t 13 0) (get_or t 14 0)
    && signed (get_or t 15 0))
    else false

-- a time that a request's field or a call's stamp gives, and one that a record holds: today the same
unfoldable pub sent_time : List ℕ → Bool
sent_time t = is_time t

unfoldable pub stored_time : List ℕ → Bool
stored_time t = is_time t
