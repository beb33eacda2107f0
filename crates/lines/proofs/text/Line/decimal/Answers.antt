-- `lines::text::Line::decimal` meets its contract. Assumes nothing.
use mathlib.Core.Path.{◌≡◌}
use native.Mathlib.Omega.{arith}
use lib.ListN.{take, length-append}
use Rattle.lines.specs.Line.{decimal, width_from}
use Rattle.lines.proofs.TextLaws.{width_is, width-most}
use Rattle.lines.proofs.text.Line.decimal.Goals as goal

pub returns : goal.returns
unfolding decimal
returns c =
    let k = c.decimal-k.result in
    let n = c.args.n in
    let few = c.decimal-k.ensures.len in
    let most = width-most n k c.ranges.n.fits few in
    let w : width_from 19 1 n ≡ k = width_is 19 1 n k few (omega arith) few.0 (omega (arith, most)) in (
      rw (w, ← c.decimal-k.ensures.digits) c.text.ensures,
      rw (c.text.ensures, length-append c.args.self.now (take k c.decimal-k.new.out)) (omega (arith, most, c.decimal-k.ensures.in_bounds.1)),
    )
