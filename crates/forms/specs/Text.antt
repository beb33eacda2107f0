-- The forms of a text (document 01, "Fields and their status"): said once, on the text without its NUL, for what is received and for
-- what is stored.
use Rattle.std.specs.Prelude.{ℕ, ◌-◌, Bool, ◌&&◌, ◌||◌, List, map, length, drop, ltb, leb, eqb, None, Option, Some}
use Rattle.octets.specs.Choice.{when◌then◌else◌}
use Rattle.octets.specs.Stretch.{every}
use Rattle.octets.specs.Lent.{Lent, lent_from}
use Rattle.octets.specs.Number.{onto}
use Rattle.forms.specs.Class.{within, in_class, lead}
use Rattle.forms.specs.declared.class.Class.TheVariants.{Ascii, Space, Decimal, Hexadecimal}
use Rattle.forms.specs.declared.text.Form.{Form}
use Rattle.forms.specs.declared.text.Form.TheVariants.{Digits, Address, AddressOrNone, MessageIdOrNone}

-- a short message has at most 140 octets
abbrev pub longest_text : ℕ
longest_text = 140

abbrev pub given : List ℕ → Bool
given t = ltb 0 (length t)

abbrev pub empty : List ℕ → Bool
empty t = eqb (length t) 0

-- at least one octet, and each passes the test
abbrev pub given_all : (ℕ → Bool) → List ℕ → Bool
given_all p t = given t && every p t

unfoldable pub after_spaces : List ℕ → List ℕ
after_spaces t = drop (lead (in_class Space) t) t

-- the same where it stands
abbrev pub after_spaces_part : Lent → Lent
after_spaces_part t = lent_from (lead (in_class Space) t.octets) t

-- leading spaces and then at least one decimal digit
abbrev pub is_address : List ℕ → Bool
is_address t = given_all (in_class Decimal) (after_spaces t)

-- leading spaces and then 1 to 8 hex digits of either case
abbrev pub is_message_id : List ℕ → Bool
is_message_id t = given_all (in_class Hexadecimal) (after_spaces t) && leb (length (after_spaces t)) 8

unfoldable pub formed : Form → List ℕ → Bool
formed Form.Ascii t = every (in_class Ascii) t
formed Digits t = given_all (in_class Decimal) t
formed Address t = is_address t
formed AddressOrNone t = empty t || is_address t
formed MessageIdOrNone t = empty t || is_message_id t

-- what a hex digit of either case stands for; 0 for any other octet
unfoldable pub nibble : ℕ → ℕ
nibble x =
    when within 48 57 x then x - 48
    else when within 65 70 x then x - 55
    else when within 97 102 x then x - 87
    else 0

-- the number that hex digits write
abbrev pub hex_value : List ℕ → ℕ
hex_value digits = onto 16 0 (map nibble digits)

-- a message id, read as a number; an empty one is not the number 0
unfoldable pub message_id : List ℕ → Option ℕ
message_id t = when empty t then None else Some (hex_value (after_spaces t))
