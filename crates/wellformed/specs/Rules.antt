-- The rules of a request's fields (document 01, "Fields and their status"), each as a fact of what was read.
use Rattle.std.specs.Prelude.{ℕ, ◌≤◌, ◌≡◌, true, ◌||◌, ◌⊎◌, List, length}
use Rattle.octets.specs.Stretch.{part, every, zeros}
use Rattle.forms.specs.Class.{in_class}
use Rattle.forms.specs.Text.{longest_text, formed}
use Rattle.forms.specs.Time.{time_length, sent_time}
use Rattle.forms.specs.Field.{address_size, is_field}
use Rattle.forms.specs.declared.class.Class.TheVariants.{NotNul}
use Rattle.forms.specs.declared.text.Form.{Form}
use Rattle.forms.specs.declared.text.Form.TheVariants.{Ascii, AddressOrNone}
use Rattle.wire.specs.Fields.{Inside, octets_of}
use Rattle.wire.specs.declared.fields.Span.{Span}
use Rattle.requests.specs.declared.submit.Submit.{Submit}
use Rattle.requests.specs.declared.replace.Replace.{Replace}

-- a text of at most n octets in the body, without a NUL, well formed
pub record Text (form : Form) (n : ℕ) (span : Span) (body : List ℕ) : Type 0 where
  pub inside : Inside span body
  pub fits : span.len ≤ n
  pub no_nul : every (in_class NotNul) (octets_of span body) ≡ true
  pub is_formed : formed form (octets_of span body) ≡ true

-- ton, npi, and in 20 octets, zeros behind it, nothing or leading spaces and then at least one decimal digit
pub record Addressed (octets : List ℕ) : Type 0 where
  pub size : length octets ≡ address_size
  pub number : is_field AddressOrNone (part 2 20 octets) ≡ true

-- none, or a time
pub record Timed (octets : List ℕ) : Type 0 where
  pub size : length octets ≡ time_length
  pub time : (zeros octets || sent_time octets) ≡ true

-- a default id of at most 100 and a text of at most 140 octets in the body, not both given
pub record Worded (default : ℕ) (text : Span) (body : List ℕ) : Type 0 where
  pub default_low : default ≤ 100
  pub inside : Inside text body
  pub fits : text.len ≤ longest_text
  pub not_both : (text.len ≡ 0) ⊎ (default ≡ 0)

pub record SubmitHolds (s : Submit) (body : List ℕ) : Type 0 where
  pub service : Text Ascii 5 s.service body
  pub source : Addressed s.source.octets
  pub destination : Addressed s.destination.octets
  pub priority : s.priority ≤ 1
  pub schedule : Timed s.schedule.octets
  pub validity : Timed s.validity.octets
  pub registered : s.registered ≤ 1
  pub replace : s.replace ≤ 1
  pub words : Worded s.default s.text body

pub record ReplaceHolds (r : Replace) (body : List ℕ) : Type 0 where
  pub source : Addressed r.source.octets
  pub schedule : Timed r.schedule.octets
  pub validity : Timed r.validity.octets
  pub registered : r.registered ≤ 1
  pub words : Worded r.default r.text body
