-- `account::cancel::delete_all` meets its contract: the places so far, and those to come, are all of them. Assumes nothing.
use mathlib.Core.Path.{◌≡◌}
use Prim.Native.Nat.{◌-◌}
use lib.ListN.{length}
use Rattle.store.specs.Places.{on_places}
use Rattle.account.specs.Cancel.{deleted_if}
use Rattle.account.proofs.cancel.delete_all.Given as goal

abbrev pub invariant-loop-k : goal.invariant-loop-k
invariant-loop-k l = (length l.part ≡ length l.initial.part) × (on_places (deleted_if l.source l.destination l.stamp) 16 0 l.initial.part ≡ on_places (deleted_if l.source l.destination l.stamp) (16 - l.k) l.k l.part)
