-- `account::cancel::delete_all` meets its contract: the places so far, and those to come, are all of them. Assumes nothing.
use mathlib.Core.Path.{refl, sym, ◌∙◌}
use native.Mathlib.Omega.{arith}
use Rattle.store.proofs.PlacesLaws.{on_places-more, on_places-end}
use Rattle.account.specs.Cancel.{deleted_if}
use Rattle.account.proofs.cancel.delete_all.Goals as goal

pub loop-k-init : goal.loop-k-init
loop-k-init c = (refl, refl)

pub delete_if-requires : goal.delete_if-requires
delete_if-requires c = omega arith

pub loop-k-preserved : goal.loop-k-preserved
loop-k-preserved c = (c.delete_if.auto.part ∙ c.loop-k.invariant.0, c.loop-k.invariant.1 ∙ on_places-more (deleted_if c.args.source.now c.args.destination.now c.args.stamp.now) c.loop-k.k _ _ c.loop-k-test.true c.delete_if.ensures)

pub shape_of-part : goal.shape_of-part
shape_of-part c = c.loop-k.invariant.0

pub returns : goal.returns
returns c = sym (c.loop-k.invariant.1 ∙ on_places-end (deleted_if c.args.source.now c.args.destination.now c.args.stamp.now) c.loop-k.k _ c.loop-k-test.false)
