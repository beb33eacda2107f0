-- `forms::text::hex_value` meets its contract: what stands so far, with the digits to come behind it, is the number. Assumes nothing.
use mathlib.Core.Path.{sym, ◌∙◌}
use native.Mathlib.Omega.{arith}
use Rattle.forms.proofs.HexLaws.{hex-more, hex-end, sixteenfold, seven}
use Rattle.forms.proofs.text.hex_value.Goals as goal

pub overflow_mul-value : goal.overflow_mul-value
overflow_mul-value c = omega (arith, seven c.loop-x.value c.loop-x.x-index (omega arith) (omega arith))

pub overflow_add-value : goal.overflow_add-value
overflow_add-value c = omega (arith, seven c.loop-x.value c.loop-x.x-index (omega arith) (omega arith))

pub loop-x-preserved : goal.loop-x-preserved
loop-x-preserved c = (
  sixteenfold c.loop-x.value c.loop-x.x-index c.nibble_of.result (omega arith) (omega arith),
  rw c.nibble_of.ensures.0 (c.loop-x.invariant.1 ∙ hex-more c.args.digits.now c.loop-x.x-index c.loop-x.value c.loop-x-test.true),
)

pub returns : goal.returns
returns c = sym (c.loop-x.invariant.1 ∙ hex-end c.args.digits.now c.loop-x.x-index c.loop-x.value c.loop-x-test.false)
