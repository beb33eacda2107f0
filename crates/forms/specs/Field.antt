-- A text in a stored field: its octets up to the first zero, and zeros behind them ("Unused text octets are zero").
use Rattle.std.specs.Prelude.{ℕ, Bool, ◌&&◌, List, take, drop}
use Rattle.octets.specs.Stretch.{zeros}
use Rattle.octets.specs.Lent.{Lent}
use Rattle.forms.specs.Class.{in_class, lead}
use Rattle.forms.specs.Text.{formed}
use Rattle.forms.specs.declared.class.Class.TheVariants.{NotNul}
use Rattle.forms.specs.declared.text.Form.{Form}

-- an address as it is kept: type of number, numbering plan, and its characters in 20 octets
abbrev pub address_size : ℕ
address_size = 22

unfoldable pub text_of : List ℕ → List ℕ
text_of field = take (lead (in_class NotNul) field) field

-- the same where it stands: the text begins where its field does
abbrev pub text_part : Lent → Lent
text_part field = record { place = field.place; octets = text_of field.octets }

unfoldable pub is_field : Form → List ℕ → Bool
is_field form field = formed form (text_of field) && zeros (drop (lead (in_class NotNul) field) field)
