-- `octets::stretch::all_zero` meets its contract: the tests so far, and those to come, are all of them. Assumes nothing.
use mathlib.Core.Path.{sym, ◌∙◌}
use Rattle.octets.specs.Stretch.{is_zero}
use Rattle.octets.proofs.StretchLaws.{every-turn, every-end}
use Rattle.octets.proofs.stretch.all_zero.Goals as goal

pub loop-x-preserved : goal.loop-x-preserved
loop-x-preserved c = c.loop-x.invariant ∙ every-turn is_zero c.loop-x.zero c.args.s.now c.loop-x.x-index c.loop-x-test.true

pub returns : goal.returns
returns c = sym (c.loop-x.invariant ∙ every-end is_zero c.loop-x.zero c.args.s.now c.loop-x.x-index c.loop-x-test.false)
