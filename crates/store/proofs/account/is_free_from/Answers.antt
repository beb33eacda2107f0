-- `store::account::is_free_from` meets its contract: the tests so far, and those to come, are all of them. Assumes nothing.
use mathlib.Core.Path.{refl, sym, ◌∙◌}
use native.Mathlib.Omega.{arith}
use Rattle.octets.proofs.LentLaws.{held}
use Rattle.store.specs.Account.{other_id}
use Rattle.store.proofs.PlacesLaws.{every_more, every-done}
use Rattle.store.proofs.account.is_free_from.Goals as goal

pub loop-j-init : goal.loop-j-init
loop-j-init c = refl

pub record_at-requires : goal.record_at-requires
record_at-requires c = omega arith

pub is_other_id-free-requires : goal.is_other_id-free-requires
is_other_id-free-requires c = c.record_at.ensures.1

pub loop-j-preserved : goal.loop-j-preserved
loop-j-preserved c = rw (c.is_other_id-free.ensures, held c.record_at.ensures.0) (c.loop-j.invariant ∙ every_more c.loop-j.j c.args.part.now c.loop-j-test.true (other_id c.args.id) c.loop-j.free)

pub returns : goal.returns
returns c = sym (c.loop-j.invariant ∙ every-done c.loop-j.j c.args.part.now c.loop-j-test.false (other_id c.args.id) c.loop-j.free)
