-- `submit::store_in` meets its contract. Assumes nothing.
use mathlib.Core.Path.{sym, ◌∙◌, subst, ap}
use Prim.Native.Nat.{◌<◌}
use native.Mathlib.Omega.{arith}
use lib.ListN.{length, length-take}
use Rattle.octets.proofs.LentLaws.{held}
use Rattle.store.specs.Places.{OnePlace}
use Rattle.submit.specs.Submit.{stored}
use Rattle.submit.proofs.store_in.Goals as goal

pub returns-in_default : goal.returns-in_default
unfolding stored
returns-in_default c = rw (sym c.find_replaced.ensures.0 ∙ c.in_default.is) c.add.ensures

pub id_at-id-requires : goal.id_at-id-requires
id_at-id-requires c = let b : c.in-Some.k < 16 = subst OnePlace c.in-Some.is c.find_replaced.ensures.1 in omega arith

pub retext-requires : goal.retext-requires
retext-requires c = let b : c.in-Some.k < 16 = subst OnePlace c.in-Some.is c.find_replaced.ensures.1 in omega (arith, simp length-take at (ap length (held c.octets_of.ensures)))

pub returns : goal.returns
unfolding stored
returns c = rw (sym c.find_replaced.ensures.0 ∙ c.in-Some.is, ← (held c.octets_of.ensures), c.id_at-id.ensures, c.retext.ensures)
