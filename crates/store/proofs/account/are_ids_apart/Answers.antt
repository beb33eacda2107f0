-- `store::account::are_ids_apart` meets its contract: the tests so far, and those to come, are all of them. Assumes nothing.
use mathlib.Core.Path.{refl, sym, ◌∙◌}
use native.Mathlib.Omega.{arith}
use Rattle.store.proofs.PlacesLaws.{apart_more, apart-done}
use Rattle.store.proofs.account.are_ids_apart.Goals as goal

pub loop-k-init : goal.loop-k-init
loop-k-init c = refl

pub is_apart-ok-requires : goal.is_apart-ok-requires
is_apart-ok-requires c = omega arith

pub loop-k-preserved : goal.loop-k-preserved
loop-k-preserved c = rw c.is_apart-ok.ensures (c.loop-k.invariant ∙ apart_more c.loop-k.k c.args.part.now c.loop-k-test.true c.loop-k.ok)

pub returns : goal.returns
returns c = sym (c.loop-k.invariant ∙ apart-done c.loop-k.k c.args.part.now c.loop-k-test.false c.loop-k.ok)
