-- What the code of an outcome and a pick gives, as the answers of the definition.
use Rattle.std.specs.Prelude.{ℕ, ◌+◌, ◌*◌, ◌<◌, ◌≡◌, List, length, Result, Ok, Err}
use Rattle.forms.specs.Time.{time_length}
use Rattle.octets.specs.Lent.{Lent, lent_first, lent_part}
use Rattle.records.specs.Layout.{record_size, places}
use Rattle.records.specs.Book.{book_size}
use Rattle.store.specs.Places.{record_at}
use Rattle.session.specs.State.{account_count}
use Rattle.isolation.specs.Platform.{part_size, table_size}
use Rattle.answers.specs.Answer.{Answer, numbered, taken, delivered, picked}
use Rattle.session.specs.declared.refusal.Refusal.{Refusal}
use Rattle.session.specs.Refusal.{number_of}

-- place k (0-15) of account a (0-7) starts at octet 4096a + 256k
abbrev pub start_of : ℕ → ℕ → ℕ
start_of a k = part_size * a + record_size * k

-- what a pick returns: "the 256-octet record itself as part of the lent table"; where the number isn't 0, the empty part at the table's front
abbrev pub picked_part : ℕ → Answer → Lent → Lent
picked_part a (numbered n) table = lent_first 0 table
picked_part a (taken n consumed written space) table = lent_first 0 table
picked_part a (delivered n written space) table = lent_first 0 table
picked_part a (picked k r) table = lent_part (start_of a k) record_size table

-- a place of an account's part
abbrev pub placed : Result ℕ Refusal → List ℕ → Answer
placed (Ok k) xs = picked k (record_at k xs)
placed (Err refusal) xs = numbered (number_of refusal)

abbrev pub OnePlace : Result ℕ Refusal → Type 0
OnePlace (Ok k) = k < places
OnePlace (Err refusal) = Unit

-- a place of one of the accounts, in a whole table
pub record WithinTable (a k : ℕ) (table : List ℕ) : Type 0 where
  pub account_fits : a < account_count
  pub place_fits : k < places
  pub table_fits : length table ≡ table_size

abbrev pub Inside : Result ℕ Refusal → ℕ → List ℕ → Type 0
Inside (Ok k) a table = WithinTable a k table
Inside (Err refusal) a table = Unit

-- what no early number tells of the arguments
pub record Sized (book table : ℕ) : Type 0 where
  pub book_fits : book ≡ book_size
  pub table_fits : table ≡ table_size

pub record Stamped (book table : ℕ) (stamp : List ℕ) : Type 0 where
  pub book_fits : book ≡ book_size
  pub table_fits : table ≡ table_size
  pub stamp_fits : length stamp ≡ time_length
