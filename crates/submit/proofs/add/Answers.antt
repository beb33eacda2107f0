-- `submit::add` meets its contract. Assumes nothing.
use mathlib.Core.Path.{sym, ◌∙◌, subst, ap}
use Prim.Native.Nat.{◌<◌}
use native.Mathlib.Omega.{arith}
use lib.ListN.{length, length-take}
use borrow.Author.Tests.{eq-eqb, ne_eqb}
use Rattle.octets.specs.Choice.{when◌then◌else◌}
use Rattle.octets.proofs.LentLaws.{held}
use Rattle.store.specs.Places.{OnePlace}
use Rattle.submit.specs.Submit.{added}
use Rattle.submit.proofs.add.Goals as goal

pub returns-then-last-eq-LAST_OF_ALL : goal.returns-then-last-eq-LAST_OF_ALL
unfolding added when◌then◌else◌
returns-then-last-eq-LAST_OF_ALL c = rw (eq-eqb _ _ c.if-last-eq-LAST_OF_ALL.true)

pub returns-in_default : goal.returns-in_default
unfolding added when◌then◌else◌
returns-in_default c = rw (ne_eqb _ _ c.if-last-eq-LAST_OF_ALL.false, sym c.find_new.ensures.0 ∙ c.in_default.is)

pub put_new-requires : goal.put_new-requires
put_new-requires c = let b : c.in-Some.k < 16 = subst OnePlace c.in-Some.is c.find_new.ensures.1 in omega (arith, simp length-take at (ap length (held c.octets_of.ensures)), simp length-take at (ap length (held c.octets_of-2.ensures)))

pub returns : goal.returns
unfolding added when◌then◌else◌
returns c = rw (ne_eqb _ _ c.if-last-eq-LAST_OF_ALL.false, sym c.find_new.ensures.0 ∙ c.in-Some.is, ← (held c.octets_of.ensures), ← (held c.octets_of-2.ensures), ← c.fields_of.ensures, c.put_new.ensures)
