-- `lines::text::Line::hex` meets its contract. Assumes nothing.
use mathlib.Core.Path.{sym}
use mathlib.Core.List.{append-nil}
use native.Mathlib.Omega.{arith}
use lib.ListN.{take, length-append}
use lib.Seq.{length-take-le}
use Rattle.lines.specs.Line.{hex_of}
use Rattle.lines.proofs.TextLaws.{hex-length, hex-turn}
use Rattle.lines.proofs.text.Line.hex.Goals as goal

pub loop-x-init : goal.loop-x-init
unfolding hex_of
loop-x-init c = sym (append-nil c.args.self.now)

pub text-requires : goal.text-requires
text-requires c =
    let done = take c.loop-x.x-index c.args.octets.now in
    let n = length-take-le c.loop-x.x-index c.args.octets.now (omega (arith, c.loop-x-test.true)) in
    rw (c.loop-x.invariant, length-append c.args.self.now (hex_of done), hex-length done, n) (omega (arith, c.requires, c.loop-x-test.true))

pub loop-x-preserved : goal.loop-x-preserved
loop-x-preserved c =
    rw (c.text.ensures, c.hex_digit.ensures, c.hex_digit-in-loop-x.ensures, c.from-x.ensures) (hex-turn c.args.self.now c.args.octets.now c.loop-x.x-index c.loop-x-test.true c.loop-x.invariant)
