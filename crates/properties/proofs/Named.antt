-- A bind names one of the eight book records, and that record is used and well formed. Assumes nothing.
use mathlib.Core.Path.{◌≡◌, subst}
use mathlib.Core.Bool.{true}
use mathlib.Core.List.{List}
use Prim.Native.Nat.{ℕ, ◌<◌}
use Rattle.std.specs.Prelude.{Some}
use Rattle.records.specs.Book.{book_record_size, book_record, used_ok, named}
use Rattle.records.proofs.NamedLaws.{named-used}
use Rattle.store.specs.Places.{Below}
use Rattle.store.specs.Search.{named_place}
use Rattle.store.proofs.PlacesLaws.{lowest-below}
use Rattle.session.specs.State.{account_count}
use Rattle.wellformed.proofs.Lowest.{row-passes}

-- the record that was found has the names sought
pub found-named : (system kind book : List ℕ) (a : ℕ) → named_place system kind book ≡ Some a → named system kind (book_record a book) ≡ true
found-named system kind book a e = row-passes (named system kind) (λ r. 0) book_record_size 8 a book e

pub found-used : (system kind book : List ℕ) (a : ℕ) → named_place system kind book ≡ Some a → (a < account_count) × (used_ok (book_record a book) ≡ true)
found-used system kind book a e = (
  subst (Below 8) e (lowest-below book_record_size 8 (named system kind) (λ r. 0) book),
  named-used system kind (book_record a book) (found-named system kind book a e),
)
