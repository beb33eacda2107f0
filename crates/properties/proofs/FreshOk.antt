-- A part of zeros is well formed, with any last id. Assumes nothing.
use Prim.Native.Nat.{ℕ, ◌*◌}
use mathlib.Core.Path.{◌≡◌, sym, ◌∙◌}
use mathlib.Core.Bool.{true, false≢true}
use mathlib.Core.List.{List}
use Rattle.octets.specs.Stretch.{zeros}
use Rattle.records.specs.Layout.{record_size}
use Rattle.records.specs.Record.{record_ok}
use Rattle.store.specs.Places.{record_at}
use Rattle.records.proofs.RecordLaws.{zeros-part}
use Rattle.wellformed.specs.Good.{GoodPart}
use Rattle.wellformed.proofs.GoodIs.{zeros-at}

pub zeros-good : (last : ℕ) (xs : List ℕ) → zeros xs ≡ true → GoodPart last xs
unfolding record_ok
zeros-good last xs h =
    let blank : (k : ℕ) → zeros (record_at k xs) ≡ true = λ k. zeros-part (record_size * k) record_size xs h in
    record {
      each = λ k _. rw (blank k);
      apart = λ i j _ _ c. let z = zeros-at (record_at i xs) 0 (blank i) in false≢true (sym c.0 ∙ rw z);
    }
