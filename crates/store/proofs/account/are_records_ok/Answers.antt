-- `store::account::are_records_ok` meets its contract: the tests so far, and those to come, are all of them. Assumes nothing.
use mathlib.Core.Path.{refl, sym, ◌∙◌}
use native.Mathlib.Omega.{arith}
use Rattle.octets.proofs.LentLaws.{held}
use Rattle.records.specs.Record.{record_ok}
use Rattle.store.proofs.PlacesLaws.{every_more, every-done}
use Rattle.store.proofs.account.are_records_ok.Goals as goal

pub loop-k-init : goal.loop-k-init
loop-k-init c = refl

pub record_at-requires : goal.record_at-requires
record_at-requires c = omega arith

pub is_record_ok-ok-requires : goal.is_record_ok-ok-requires
is_record_ok-ok-requires c = c.record_at.ensures.1

pub loop-k-preserved : goal.loop-k-preserved
loop-k-preserved c = rw (c.is_record_ok-ok.ensures, held c.record_at.ensures.0) (c.loop-k.invariant ∙ every_more c.loop-k.k c.args.part.now c.loop-k-test.true (record_ok c.args.last) c.loop-k.ok)

pub returns : goal.returns
returns c = sym (c.loop-k.invariant ∙ every-done c.loop-k.k c.args.part.now c.loop-k-test.false (record_ok c.args.last) c.loop-k.ok)
