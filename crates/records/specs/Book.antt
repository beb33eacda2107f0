-- The account book's record of 64 octets (document 01, "The account book and the table"), and how names and addresses compare (document 02, 2).
use Rattle.std.specs.Prelude.{ℕ, ◌-◌, ◌*◌, Bool, not, ◌&&◌, List, length, get_or, take, drop, eqb}
use Rattle.octets.specs.Stretch.{part, padded, same, zeros}
use Rattle.octets.specs.Lent.{Lent, lent_part}
use Rattle.forms.specs.Class.{in_class}
use Rattle.forms.specs.Text.{given_all, after_spaces}
use Rattle.forms.specs.Field.{address_size, text_of, is_field}
use Rattle.forms.specs.declared.class.Class.TheVariants.{Space}
use Rattle.forms.specs.declared.text.Form.{Form}
use Rattle.forms.specs.declared.text.Form.TheVariants.{Ascii, Digits}
use Rattle.records.specs.Layout.{account_count}

abbrev pub book_record_size : ℕ
book_record_size = 64

-- 0-15 system_id, 16-24 password, 25-37 system_type
abbrev pub system_of : List ℕ → List ℕ
system_of b = part 0 16 b

abbrev pub password_of : List ℕ → List ℕ
password_of b = part 16 9 b

abbrev pub system_type_of : List ℕ → List ℕ
system_type_of b = part 25 13 b

-- 38 callback ton, 39 callback npi, 40-60 callback address: as a source, its 20 characters at most
abbrev pub callback_of : List ℕ → List ℕ
callback_of b = part 38 address_size b

abbrev pub callback_field_of : List ℕ → List ℕ
callback_field_of b = part 40 21 b

-- 61-63 zero
abbrev pub book_spare_of : List ℕ → List ℕ
book_spare_of b = part 61 3 b

-- a text in a field that ends with at least one zero octet
abbrev pub ended_text : Form → List ℕ → Bool
ended_text form field = is_field form field && eqb (get_or field (length field - 1) 0) 0

-- each text ASCII, the callback address 1 to 20 decimal digits, 61-63 zero
unfoldable pub book_ok : List ℕ → Bool
book_ok b =
    ended_text Ascii (system_of b)
    && ended_text Ascii (password_of b)
    && ended_text Ascii (system_type_of b)
    && ended_text Digits (callback_field_of b)
    && zeros (book_spare_of b)

-- an unused record is all zero
unfoldable pub used_ok : List ℕ → Bool
used_ok b = not (zeros b) && book_ok b

-- ---- leading spaces don't count when system_id, system_type and addresses are compared

unfoldable pub same_name : List ℕ → List ℕ → Bool
same_name a b = same (after_spaces a) (after_spaces b)

-- one space or more, and nothing else
abbrev pub spaces_only : List ℕ → Bool
spaces_only t = given_all (in_class Space) t

-- a system_id of spaces only, sent or in the book, matches nothing
unfoldable pub same_system_id : List ℕ → List ℕ → Bool
same_system_id a b = not (spaces_only a) && not (spaces_only b) && same_name a b

-- a field as it would be kept had its text been sent without the leading spaces
abbrev pub unspaced : List ℕ → List ℕ
unspaced field = padded (length field) (after_spaces field)

-- equal in all three: ton, npi, and the text, of which leading spaces don't count
unfoldable pub same_address : List ℕ → List ℕ → Bool
same_address a b = same (take 2 a) (take 2 b) && same (unspaced (drop 2 a)) (unspaced (drop 2 b))

-- ---- which record a bind names, and whether its password is the record's

-- a used, well-formed record with equal system_id and system_type
unfoldable pub named : List ℕ → List ℕ → List ℕ → Bool
named system kind b = used_ok b && same_system_id (text_of (system_of b)) system && same_name (text_of (system_type_of b)) kind

-- passwords compare octet for octet, spaces included
unfoldable pub password_is : List ℕ → List ℕ → Bool
password_is password b = same (text_of (password_of b)) password

-- the book has eight records, one behind the other
abbrev pub book_record : ℕ → List ℕ → List ℕ
book_record a book = part (book_record_size * a) book_record_size book

-- the same where it stands
abbrev pub book_record_part : ℕ → Lent → Lent
book_record_part a book = lent_part (book_record_size * a) book_record_size book

abbrev pub book_size : ℕ
book_size = book_record_size * account_count
