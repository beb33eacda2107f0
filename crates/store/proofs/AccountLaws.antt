-- What a well-formed account tells of the record at a place. Assumes nothing.
use mathlib.Core.Path.{◌≡◌, ap, ◌∙◌, sym}
use mathlib.Core.Bool.{true}
use mathlib.Core.List.{List, []}
use Prim.Native.Nat.{ℕ, ◌≤◌, ◌<◌}
use native.Mathlib.Omega.{arith}
use Rattle.octets.proofs.StretchLaws.{and_left, and_right, every-at}
use Rattle.octets.proofs.RowsLaws.{rows-length, rows_at}
use Rattle.records.specs.Layout.{record_size, places, state_of}
use Rattle.records.specs.Record.{record_ok}
use Rattle.records.specs.Book.{used_ok}
use Rattle.records.proofs.RecordLaws.{record-state}
use Rattle.store.specs.Places.{records, record_at}
use Rattle.store.specs.Account.{places_ok, account_ok}

module _ (book : List ℕ) (last : ℕ) (xs : List ℕ) (k : ℕ) where
  pub account-record : account_ok book last xs ≡ true → k < places → record_ok last (record_at k xs) ≡ true
  unfolding account_ok places_ok
  account-record ok h =
      ap (record_ok last) (sym (rows_at record_size places k xs h))
      ∙ every-at (record_ok last) (records xs) k [] (and_left _ _ (and_right (used_ok book) (places_ok last xs) ok)) (omega (arith, rows-length record_size places xs))

  pub account-state : account_ok book last xs ≡ true → k < places → state_of (record_at k xs) ≤ 5
  account-state ok h = record-state last (record_at k xs) (account-record ok h)
