-- A place that an account's part has lies in the table: where it starts, and that it is inside where the account is one of the eight and the table
-- whole. Assumes nothing.
use Prim.Native.Nat.{ℕ, ◌*◌, ◌<◌}
use native.Mathlib.Omega.{arith}
use mathlib.Core.Path.{◌≡◌}
use mathlib.Core.List.{List}
use lib.ListN.{length}
use Rattle.octets.specs.Lent.{Lent, lent_part}
use Rattle.octets.proofs.LentLaws.{lent-part-part}
use Rattle.records.specs.Layout.{record_size, places, part_size}
use Rattle.store.specs.Places.{record_part}
use Rattle.session.specs.State.{account_count}
use Rattle.isolation.specs.Platform.{table_size}
use Rattle.centre.specs.Pick.{start_of, OnePlace, Inside}
use Rattle.std.specs.Prelude.{Result, Ok, Err}
use Rattle.session.specs.declared.refusal.Refusal.{Refusal}

-- the record at place k of account a's part is the part of the table that starts at octet 4096a + 256k
pub place-part : (a k : ℕ) (table : Lent) → k < places → record_part k (lent_part (part_size * a) part_size table) ≡ lent_part (start_of a k) record_size table
place-part a k table below = lent-part-part table (part_size * a) part_size (record_size * k) record_size (omega arith)

pub inside : (r : Result ℕ Refusal) (a : ℕ) (table : List ℕ) → OnePlace r → a < account_count → length table ≡ table_size → Inside r a table
inside (Err refusal) a table one below sized = tt
inside (Ok k) a table one below sized = record { account_fits = below; place_fits = one; table_fits = sized }
