-- `smsc33::turn::stop` meets its contract. Assumes nothing.
use mathlib.Core.Path.{refl}
use Prim.Native.Nat.{◌≤◌}
use native.Mathlib.Omega.{arith}
use lib.ListN.{length}
use Rattle.lines.specs.Line.{bad_record}
use Rattle.lines.proofs.TextLaws.{told_is, told-fits}
use Rattle.smsc33.proofs.turn.stop.Goals as goal

pub returns : goal.returns
returns c =
    let t = c.args.text.now in
    let fits : 11 ≤ length t = omega (arith, c.requires) in
    let e = told_is t bad_record c.put.ensures refl fits in
    (λ table. rw e, told-fits t bad_record c.put.ensures refl fits)
