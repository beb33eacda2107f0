-- `inverook::flat::entry_of` meets its contract. Assumes nothing.
use native.Mathlib.Omega.{arith}
use borrow.Author.Tests.{ne_eqb}
use Rattle.octets.specs.Choice.{when◌then◌else◌}
use Rattle.inverook.specs.Flat.{entry_of}
use Rattle.inverook.proofs.flat.entry_of.Goals as goal

pub returns-in-0 : goal.returns-in-0
unfolding when◌then◌else◌ entry_of
returns-in-0 c = simp c.in-0.is

pub returns-in-1 : goal.returns-in-1
unfolding when◌then◌else◌ entry_of
returns-in-1 c = simp c.in-1.is

pub returns-in-2 : goal.returns-in-2
unfolding when◌then◌else◌ entry_of
returns-in-2 c = simp c.in-2.is

pub returns-in-3 : goal.returns-in-3
unfolding when◌then◌else◌ entry_of
returns-in-3 c = simp c.in-3.is

pub returns-in_default : goal.returns-in_default
unfolding when◌then◌else◌ entry_of
returns-in_default c = simp (ne_eqb c.args.kind 0 (omega arith), ne_eqb c.args.kind 1 (omega arith), ne_eqb c.args.kind 2 (omega arith), ne_eqb c.args.kind 3 (omega arith))
