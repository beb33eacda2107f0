-- Sizes that aren't wrong are right. Assumes nothing.
use mathlib.Core.Path.{◌≡◌}
use mathlib.Core.Bool.{false, not}
use Prim.Native.Nat.{ℕ}
use lib.Dec.{eqb}
use borrow.Author.Tests.{eqb-true, not-false}
use Rattle.octets.proofs.StretchLaws.{or_left, or_right}
use Rattle.records.specs.Book.{book_size}
use Rattle.isolation.specs.Platform.{table_size}
use Rattle.centre.specs.Centre.{wrong_sizes}

pub book-fits : (book table : ℕ) → wrong_sizes book table ≡ false → book ≡ book_size
book-fits book table h = eqb-true book book_size (not-false _ (or_left (not (eqb book book_size)) (not (eqb table table_size)) h))

pub table_fits_lem : (book table : ℕ) → wrong_sizes book table ≡ false → table ≡ table_size
table_fits_lem book table h = eqb-true table table_size (not-false _ (or_right (not (eqb book book_size)) (not (eqb table table_size)) h))
