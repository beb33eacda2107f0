-- When a message record and an account are well formed (document 01, "The account book and the table"; document 02, 1), a rule to a line.
use Rattle.std.specs.Prelude.{ℕ, ◌≤◌, ◌<◌, ◌≡◌, true, false, ◌⊎◌, List, length, drop}
use Rattle.octets.specs.Stretch.{padded, zeros}
use Rattle.forms.specs.Text.{longest_text}
use Rattle.forms.specs.Field.{address_size, is_field}
use Rattle.forms.specs.Time.{stored_time}
use Rattle.forms.specs.declared.text.Form.TheVariants.{Ascii}
use Rattle.records.specs.Layout.{places, state_of, id_of, source_of, destination_of, service_of, priority_of, schedule_of, validity_of, registered_of, default_of, length_of, text_field_of, date_of, error_of, mark_of, spare_of}
use Rattle.records.specs.Record.{address_ok, time_ok, record_ok}
use Rattle.changes.specs.declared.Fields.{Fields}
use Rattle.store.specs.Places.{record_at}
use Rattle.store.specs.Search.{is_empty}
use Rattle.wellformed.specs.Rules.{Timed}

-- the state is 1 to 5, the final date is a time, present exactly when it is 2 to 5, and the error code is 0 in states 1 and 4
pub record GoodEnd (r : List ℕ) : Type 0 where
  pub state_low : 1 ≤ state_of r
  pub state_high : state_of r ≤ 5
  pub no_date : state_of r ≡ 1 → zeros (date_of r) ≡ true
  pub date : (state_of r ≡ 1 → ⊥) → stored_time (date_of r) ≡ true
  pub error : (state_of r ≡ 1) ⊎ (state_of r ≡ 4) → error_of r ≡ 0

-- the mark is 0 or 1, and 0 where the record is unregistered or waiting
pub record GoodMark (r : List ℕ) : Type 0 where
  pub bit : mark_of r ≤ 1
  pub unregistered : registered_of r ≡ 0 → mark_of r ≡ 0
  pub waiting : state_of r ≡ 1 → mark_of r ≡ 0

-- default id at most 100, length at most 140, not both given, unused text octets zero
pub record GoodWords (r : List ℕ) : Type 0 where
  pub default : default_of r ≤ 100
  pub size : length_of r ≤ longest_text
  pub not_both : (length_of r ≡ 0) ⊎ (default_of r ≡ 0)
  pub unused : zeros (drop (length_of r) (text_field_of r)) ≡ true

-- its id lies in 1..last, both addresses are given, every field passes the submission rules, and octets 251-255 are zero
pub record Good (last : ℕ) (r : List ℕ) : Type 0 where
  pub id_low : 1 ≤ id_of r
  pub id_high : id_of r ≤ last
  pub source : address_ok (source_of r) ≡ true
  pub destination : address_ok (destination_of r) ≡ true
  pub service : is_field Ascii (service_of r) ≡ true
  pub priority : priority_of r ≤ 1
  pub schedule : time_ok (schedule_of r) ≡ true
  pub validity : time_ok (validity_of r) ≡ true
  pub registered : registered_of r ≤ 1
  pub words : GoodWords r
  pub end : GoodEnd r
  pub mark : GoodMark r
  pub spare : zeros (spare_of r) ≡ true

-- two non-empty records that share an id
abbrev pub Clash : List ℕ → List ℕ → Type 0
Clash a b = (is_empty a ≡ false) × (is_empty b ≡ false) × (id_of a ≡ id_of b)

-- each of an account's records is well formed, and no two non-empty ones share an id
pub record GoodPart (last : ℕ) (part : List ℕ) : Type 0 where
  pub each : (k : ℕ) → k < places → record_ok last (record_at k part) ≡ true
  pub apart : (i j : ℕ) → i < j → j < places → Clash (record_at i part) (record_at j part) → ⊥

-- what a new record is made of passes the submission rules, both addresses given
pub record GoodFields (f : Fields) (service text : List ℕ) : Type 0 where
  pub source_size : length f.source ≡ address_size
  pub source : address_ok f.source ≡ true
  pub destination_size : length f.destination ≡ address_size
  pub destination : address_ok f.destination ≡ true
  pub service_size : length service ≤ 5
  pub service_text : is_field Ascii (padded 5 service) ≡ true
  pub priority : f.priority ≤ 1
  pub schedule : Timed f.schedule
  pub validity : Timed f.validity
  pub registered : f.registered ≤ 1
  pub default : f.default ≤ 100
  pub size : length text ≤ longest_text
  pub not_both : (length text ≡ 0) ⊎ (f.default ≡ 0)
