-- `account::replace::replace_in` meets its contract. Assumes nothing.
use mathlib.Core.Path.{sym, ◌∙◌, subst, ap}
use Prim.Native.Nat.{◌<◌}
use native.Mathlib.Omega.{arith}
use lib.ListN.{length, length-take}
use Rattle.octets.specs.Choice.{when◌then◌else◌}
use Rattle.octets.proofs.LentLaws.{held}
use Rattle.store.specs.Places.{OnePlace}
use Rattle.account.specs.Replace.{replaced_in}
use Rattle.account.proofs.replace.replace_in.Goals as goal

pub returns-in_default : goal.returns-in_default
unfolding replaced_in
returns-in_default c = rw (sym c.find_known.ensures.0 ∙ c.in_default.is)

pub is_replaceable-requires : goal.is_replaceable-requires
is_replaceable-requires c = let b : c.in-Some.k < 16 = subst OnePlace c.in-Some.is c.find_known.ensures.1 in omega arith

pub returns-then-not-is_replaceable : goal.returns-then-not-is_replaceable
unfolding replaced_in when◌then◌else◌
returns-then-not-is_replaceable c = rw (sym c.find_known.ensures.0 ∙ c.in-Some.is, sym c.is_replaceable.ensures ∙ c.if-not-is_replaceable.true)

pub correct-requires : goal.correct-requires
correct-requires c = let b : c.in-Some.k < 16 = subst OnePlace c.in-Some.is c.find_known.ensures.1 in omega (arith, simp length-take at (ap length (held c.octets_of.ensures)))

pub returns : goal.returns
unfolding replaced_in when◌then◌else◌
returns c = rw (sym c.find_known.ensures.0 ∙ c.in-Some.is, sym c.is_replaceable.ensures ∙ c.if-not-is_replaceable.false, ← (held c.octets_of.ensures), c.correct.ensures)
