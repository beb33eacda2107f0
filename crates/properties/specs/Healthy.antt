-- From a fresh platform, an account with a used and well-formed book record stays well formed, whatever is asked of the centre.
use Rattle.std.specs.Prelude.{ℕ, ◌<◌, ◌≡◌, true, List}
use Rattle.records.specs.Book.{book_record, used_ok}
use Rattle.session.specs.State.{account_count}
use Rattle.isolation.specs.Platform.{fresh, Step, on, of}
use Rattle.isolation.specs.History.{after}
use Rattle.answers.specs.Answer.{Octets, Delivery, Call, taking, delivering, Outcome, Question, outcome, pick, number_of}
use Rattle.centre.specs.Centre.{centre, step}
use Rattle.properties.specs.Property1.{WellFormed}

pub record Healthy : Type 0 where
  pub stays : (book : List ℕ) (hs : List (Step Call Question)) (a : ℕ) → a < account_count → used_ok (book_record a book) ≡ true
      → WellFormed book (after centre book fresh hs) a
  -- so number 9 never comes from the centre's own writes: never for octets or a receipt, since a session is only ever bound to such an account, and
  -- for an outcome or a pick only where the book record is at fault
  pub taking : (book : List ℕ) (hs : List (Step Call Question)) (s : ℕ) (x : Octets)
      → number_of (step book (after centre book fresh hs) (on s (taking x))).answer ≡ 9 → ⊥
  pub delivering : (book : List ℕ) (hs : List (Step Call Question)) (s : ℕ) (y : Delivery)
      → number_of (step book (after centre book fresh hs) (on s (delivering y))).answer ≡ 9 → ⊥
  pub reporting : (book : List ℕ) (hs : List (Step Call Question)) (a : ℕ) (x : Outcome) → a < account_count → used_ok (book_record a book) ≡ true
      → number_of (step book (after centre book fresh hs) (of a (outcome x))).answer ≡ 9 → ⊥
  pub picking : (book : List ℕ) (hs : List (Step Call Question)) (a : ℕ) → a < account_count → used_ok (book_record a book) ≡ true
      → number_of (step book (after centre book fresh hs) (of a pick)).answer ≡ 9 → ⊥
