-- `changes::change_at` meets its contract. Assumes nothing.
use native.Mathlib.Omega.{arith}
use lib.ListN.{length-take, length-drop}
use Rattle.store.proofs.PlacesLaws.{lent_back}
use Rattle.changes.proofs.change_at.Goals as goal

pub returns : goal.returns
returns g c = λ f told.
    lent_back f c.args.k c.args.part.now c.change.new.arg2 (omega arith) (omega arith) (told _ _ (simp (length-take, length-drop) (omega arith)) c.change.ensures) c.change.auto.arg2
