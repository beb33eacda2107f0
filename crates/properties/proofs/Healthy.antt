-- From a fresh platform, accounts with a used and well-formed book record stay well formed, and number 9 doesn't come. Assumes nothing.
use Prim.Native.Nat.{ℕ, ◌<◌}
use mathlib.Core.Path.{◌≡◌}
use mathlib.Core.Bool.{true, false}
use mathlib.Core.List.{List}
use lib.Dec.{eqb}
use borrow.Author.Tests.{eqb-false}
use Rattle.records.specs.Book.{book_record, used_ok}
use Rattle.session.specs.State.{account_count, entry_at}
use Rattle.isolation.specs.Platform.{World, fresh, Step}
use Rattle.isolation.specs.History.{bound_to, after}
use Rattle.answers.specs.Answer.{Call, Question}
use Rattle.centre.specs.Centre.{centre}
use Rattle.properties.specs.Property1.{WellFormed}
use Rattle.properties.specs.Healthy.{Healthy}
use Rattle.properties.proofs.AccountsOk.{fine-history}
use Rattle.properties.proofs.Entries.{history-lead}
use Rattle.properties.proofs.Numbers.{Ill, octets-number, delivery-number, outcome-number, pick-number}

abbrev NotNine : ℕ → Type 0
NotNine n = n ≡ 9 → ⊥

other : (n : ℕ) → eqb n 9 ≡ false → NotNine n
other n h = eqb-false n 9 h

module _ (book : List ℕ) (hs : List (Step Call Question)) where
  abbrev reached : World
  reached = after centre book fresh hs

  stays : (a : ℕ) → a < account_count → used_ok (book_record a book) ≡ true → WellFormed book reached a
  stays a below used = (fine-history book a below hs used).ok

  not-ill : (a : ℕ) → a < account_count → used_ok (book_record a book) ≡ true → Ill NotNine book reached a → NotNine 9
  not-ill a below used ill = absurd (ill below (stays a below used))

  -- the account that a session is bound to
  bound-fine : (s a : ℕ) → bound_to a (entry_at reached.state s) ≡ true → Ill NotNine book reached a → NotNine 9
  bound-fine s a t = let u = history-lead book hs s a t in not-ill a u.below u.used

pub healthy : Healthy
healthy =
    record {
      stays = stays;
      taking = λ book hs s x. octets-number NotNine book (reached book hs) s (bound-fine book hs s) x (λ n _ h. other n h);
      delivering = λ book hs s y. delivery-number NotNine book (reached book hs) s (bound-fine book hs s) y (λ n _ h. other n h);
      reporting = λ book hs a x below used. outcome-number NotNine book (reached book hs) a (not-ill book hs a below used) x (λ n _ h. other n h);
      picking = λ book hs a below used. pick-number NotNine book (reached book hs) a (not-ill book hs a below used) (λ n _ h. other n h);
    }
